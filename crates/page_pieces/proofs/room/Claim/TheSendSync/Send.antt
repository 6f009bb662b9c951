use denote.Param.Send.{IsSend, AllSend, Frees, sendable, struct_send, owning_send}
use denote.RattleType.{RattleType}
use denote.Struct.Struct.{exits_of}
use denote.Struct.Owning.{shape, to, fields}
use Rattle.std.specs.declared.alloc.Allocator.{Ghosts}
use Rattle.std_alloc.proofs.SendSync.{quiet}
use Rattle.page_pieces.specs.contracts.room.Claim as C

pub send : (A : RattleType) (g : Ghosts A.Denot) → IsSend A → Frees g g.dealloc_token → IsSend (C.the_row A g)
send A g s f =
    let O = C.the_type A g in let all : AllSend (fields O) = (search sendable, (search sendable, (search sendable, tt))) in
    owning_send O all (λ d. f.frees d.alloc _ d.ptr) (λ k. quiet (to O) (exits_of k (fields O)) ((struct_send (shape O) all).leaving k))
