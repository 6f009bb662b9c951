use denote.Param.Send.{IsSend, IsSync, Frees, part_keyless}
use denote.RattleType.{RattleType}
use Rattle.std.specs.declared.alloc.Allocator.{Ghosts}
use Rattle.page_pieces.specs.contracts.room.Claim as C
use Rattle.page_pieces.proofs.room.Claim.TheSendSync.Send.{send}

pub sync : (A : RattleType) (g : Ghosts A.Denot) → IsSend A → Frees g g.dealloc_token → IsSync (C.the_row A g)
sync A g s f = record { shared = λ d b o κ q. part_keyless (C.the_row A g) (send A g s f) q d b o }
