use denote.Param.Send.{IsSend, IsSync, Frees, struct_send}
use denote.RattleType.{RattleType}
use denote.Struct.Declared as declared
use Rattle.std.specs.declared.alloc.Allocator.{Ghosts}
use Rattle.std_alloc.proofs.SendSync.{Arc-send}
use Rattle.cmm_types.specs.declared.page.TheConstants.{PAGE}
use Rattle.page_pieces.specs.contracts.block.Block as Block
use Rattle.page_pieces.specs.contracts.block.Tether.TheInside as Inside
use Rattle.page_pieces.specs.contracts.block.Tether as C
use Rattle.page_pieces.proofs.block.Block.TheSendSync as block
use Rattle.page_pieces.proofs.Crosses.{room_owns-keyless}

pub send : (A : RattleType) (g : Ghosts A.Denot) → IsSend A → IsSync A → Frees g g.dealloc_token → IsSend (C.the_row A g)
send A g s y f =
    let counted = Arc-send (Block.the_row A g) A g (block.the_send A g s f) (block.the_sync A g s y f) f s y in
    record {
      owned = λ p vs. (
        (λ _. tt),
        λ x w. (
          (tt, (struct_send (declared.shape (Inside.the_type A g)) (counted, tt)).owned (x.block, tt) vs),
          (tt, room_owns-keyless p PAGE),
        ),
      );
      leaving = λ k x w. tt;
    }
