use Rattle.std.proofs.Common.{◌<◌, arith, sum, subst}
use Rattle.host_plain.specs.MemoryState.{MemoryState, IsMemory, opening_memory}
use Rattle.host_plain.proofs.Starts.{opening-host, opened, pages-there}
use Rattle.host_plain.proofs.host.Host.open.Goals as goal

pub returns-clause-host : goal.returns-clause-host
returns-clause-host c =
    opened c.args.pages.now c.args.frames c.args.blocks.items c.args.guest_pagers.items c.args.own c.in_ok-memory.memory c.in_ok-starts.starts.items c.in_ok-memory.ensures.memory
    c.in_ok-starts.ensures

pub returns-clause-sound : goal.returns-clause-sound
returns-clause-sound c =
    let sound : IsMemory (opening_memory c.args.blocks.items c.args.frames) = subst (λ (m : MemoryState). IsMemory m) c.in_ok-memory.ensures.memory c.in_ok-memory.ensures.sound in
    rw (returns-clause-host c)
    (opening-host c.args.pages.now c.args.frames c.args.blocks.items c.args.guest_pagers.items c.args.own sound c.requires.guests c.requires.pagers c.requires.each c.requires.blocks)

pub invariant_of-result : goal.invariant_of-result
invariant_of-result c = returns-clause-sound c

pub open-requires-clause-some_pages : goal.open-requires-clause-some_pages
open-requires-clause-some_pages c =
    let some : 0 < sum c.args.pages.now = pages-there c.args.pages.now c.requires.guests c.requires.each in
    omega (arith, some, c.requires.blocks)
