use Rattle.std.proofs.Common.{refl}
use Rattle.std.proofs.Common.{arith, vec_len, ◌≡◌, ◌≤◌, ◌+◌, ◌-◌, ◌++◌, take, length}
use Rattle.std.proofs.lemmas.List.{length-append, length-take}
use Rattle.cmm_io.proofs.Progress.{HasTaken-nothing, HasTaken-then}
use Rattle.cmm_io.proofs.read.read_all.Goals as goal

pub loop-piece-init : goal.loop-piece-init
loop-piece-init g c =
    let empty : vec_len c.new-bytes.result ≡ 0 = c.new-bytes.ensures.len in record {
      most = omega arith;
      taken = HasTaken-nothing g.S.Source.rest g.S.Source.given _ _ c.new-bytes.ensures.items;
      no_fault = refl;
    }

pub returns-then-is_err-clause-no_memory : goal.returns-then-is_err-clause-no_memory
returns-then-is_err-clause-no_memory g c =
    let kept = c.loop-piece.invariant in
    let more = take c.in-Ok.n c.read.new.buf in
    let few : length more ≤ c.args.limit + 1 - vec_len c.loop-piece.bytes =
    omega (arith, c.in-Ok.ensures.fits, length-take c.in-Ok.n c.read.new.buf, length-take c.min-most.result c.loop-piece.piece, c.min-most.ensures, c.len-in-loop-piece.ensures) in λ _.
    (c.loop-piece.bytes.items ++ more, omega (arith, length-append c.loop-piece.bytes.items more), HasTaken-then g.S.Source.rest g.S.Source.given _ _ _ _ _ kept.taken c.in-Ok.ensures.takes)
