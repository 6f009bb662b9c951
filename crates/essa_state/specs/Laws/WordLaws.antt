-- Orders and host moves lead permitted words to permitted words.
use Rattle.std.specs.Prelude.{◌≡◌, true, Ok}
use Rattle.std.proofs.Common.{arith}
use Rattle.cmm_types.specs.declared.page.Move.{Move}
use Rattle.cmm_types.specs.declared.page.Move.TheVariants.{Discard}
use Rattle.essa_state.specs.declared.fields.Fields.{Fields}
use Rattle.essa_state.specs.declared.orders.Order.{Order}
use Rattle.essa_state.specs.declared.orders.Order.TheVariants.{Get}
use Rattle.essa_state.specs.StateWord.{is_permitted}
use Rattle.essa_state.specs.Orders.{after_order}
use Rattle.essa_state.specs.Moves.{move_answer}

-- every order, whether or not it is done
pub ordered-permitted : (w : Fields) (code : Order) → is_permitted w ≡ true → is_permitted (after_order w code) ≡ true
ordered-permitted w Get h = grind arith
ordered-permitted w code h = grind arith

-- every host move that isn't refused
pub moved_permitted : (w moved : Fields) (action : Move) → move_answer w action ≡ Ok moved → is_permitted w ≡ true → is_permitted moved ≡ true
moved_permitted w moved Discard answer h = grind arith
moved_permitted w moved action answer h = grind arith
