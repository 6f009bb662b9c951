use denote.Param.Send.{IsSend, IsSync, Frees, struct_sync}
use denote.RattleType.{RattleType}
use denote.Struct.Owning.{shape, to}
use Rattle.std.specs.declared.alloc.Allocator.{Ghosts}
use Rattle.page_pieces.specs.contracts.block.Block as C
use Rattle.page_pieces.proofs.block.Sole.TheSendSync as sole

pub sync : (A : RattleType) (g : Ghosts A.Denot) → IsSend A → IsSync A → Frees g g.dealloc_token → IsSync (C.the_row A g)
sync A g s y f = let O = C.the_type A g in record { shared = λ d b o κ. ((struct_sync (shape O) (sole.the_field_sync A g s y f, tt)).shared (to O d) b o κ, λ q. tt) }
