use Rattle.std.proofs.Common.{◌≡◌, ◌+◌, map, length, count_by}
use Rattle.guest_maps.specs.MapsView.{shows, unless_shows}
use Rattle.guest_maps.proofs.entries.Entries.clear_page.Given as goal

abbrev pub invariant-loop-place : goal.invariant-loop-place
invariant-loop-place l =
    record {
      pages : l.self.pages ≡ l.fn.self.pages;
      whole : length l.self.entries ≡ length l.fn.self.entries;
      left : map (unless_shows l.page) l.self.entries ≡ map (unless_shows l.page) l.fn.self.entries;
      counted : l.cleared + count_by (shows l.page) l.self.entries ≡ count_by (shows l.page) l.fn.self.entries;
    }

abbrev pub decreases-loop-place : goal.decreases-loop-place
decreases-loop-place l = count_by (shows l.page) l.self.entries
