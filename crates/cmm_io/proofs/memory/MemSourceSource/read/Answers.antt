use Rattle.std.proofs.Common.{◌≡◌, ◌∙◌, ◌≤◌, ◌-◌, length, take, drop, sym, ap, rules, arith}
use Rattle.std.proofs.lemmas.List.{take_rest}
use Rattle.cmm_io.specs.MemoryStates.{SourceState}
use Rattle.cmm_io.proofs.Progress.{taken_from, given_copied}
use Rattle.cmm_io.proofs.memory.MemSourceSource.read.Goals as goal

pub returns-clause-takes : goal.returns-clause-takes
returns-clause-takes c =
    let items = c.self.inside.bytes.items in
    let taken = c.self.inside.taken in
    let n = c.min-n.result in
    let copy = c.copy_from_slice.new.self in
    let back = drop n c.args.buf.now in
    let rest : take (length c.deref.result.now - taken) (drop taken c.deref.result.now) ≡ drop taken items = take_rest c.deref.result.now taken ∙ ap (drop taken) c.deref.ensures.value in
    let fits : n ≤ length (drop taken items) = omega (arith, c.min-n.ensures, c.min.ensures, ap length rest) in
    let copied : copy ≡ take n (drop taken items) = c.copy_from_slice.ensures.after ∙ ap (take n) rest in
    let given : taken ≡ c.args.self.now.given = ap (λ (source : SourceState). source.given) c.self.view_is in
    record {
      lost = sym (ap (λ (source : SourceState). source.rest) c.self.view_is) ∙ taken_from items copy back taken n fits copied;
      counted = given_copied items copy back taken n c.args.self.now.given fits copied given (search (rules, c.self.inside.bytes.small));
    }
