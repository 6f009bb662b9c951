use denote.Param.Send.{IsSend, AllSend, Frees, struct_send, owning_send}
use denote.RattleType.{RattleType}
use denote.Struct.Struct.{exits_of}
use denote.Struct.Owning.{shape, to, fields}
use Rattle.std.specs.declared.alloc.Allocator.{Ghosts}
use Rattle.std_alloc.proofs.SendSync.{quiet}
use Rattle.page_pieces.specs.contracts.block.Block as C
use Rattle.page_pieces.proofs.block.Sole.TheSendSync as sole
use Rattle.page_pieces.proofs.Crosses.{room_owns-keyless}

pub send : (A : RattleType) (g : Ghosts A.Denot) → IsSend A → Frees g g.dealloc_token → IsSend (C.the_row A g)
send A g s f =
    let O = C.the_type A g in let all : AllSend (fields O) = (sole.the_field_send A g s f, tt) in
    owning_send O all (λ d. (tt, room_owns-keyless d.sole.claim.ptr d.sole.claim.len)) (λ k. quiet (to O) (exits_of k (fields O)) ((struct_send (shape O) all).leaving k))
