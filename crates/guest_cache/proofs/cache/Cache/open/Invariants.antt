use Rattle.std.proofs.Common.{◌≡◌, map, sum, take}
use Rattle.std.specs.List.{range_with_len}
use Rattle.guest_cache.specs.CacheView.{pages_before}
use Rattle.guest_cache.proofs.cache.Cache.open.Given as goal

abbrev pub invariant-loop-pages : goal.invariant-loop-pages
invariant-loop-pages l = (l.firsts.items ≡ map (pages_before l.files) (range_with_len 0 l.pages-index)) × (l.file_pages ≡ sum (take l.pages-index l.files))
