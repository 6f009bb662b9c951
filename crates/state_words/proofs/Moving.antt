-- The word, the body and the value after a move that isn't refused.
use Rattle.std.proofs.Common.{◌≡◌, refl, true, false, Option, Some, None, Result, Ok, Err, is_ok, arith}
use Rattle.cmm_types.specs.declared.page.Move.{Move}
use Rattle.cmm_types.specs.declared.page.Move.TheVariants.{Discard}
use Rattle.cmm_types.specs.declared.page.Refused.{Refused}
use Rattle.essa_state.specs.declared.fields.Fields.{Fields}
use Rattle.essa_state.specs.Moves.{move_answer}
use Rattle.essa_state.specs.PageValue.{MayBecome}
use Rattle.essa_state.specs.Laws.PageValueLaws.{MayBecome-refl, move-may_become}
use Rattle.essa_state.specs.PageBody.{Body, actual, moved_body}
use Rattle.state_words.specs.Steps.{IsAllowedOn, ok_or, word_after, body_after}
use Rattle.state_words.specs.Laws.StepLaws.{moves-allowed}

is-ok_or : (word : Fields) (r : Result Fields Refused) → is_ok r ≡ true → r ≡ Ok (ok_or word r)
is-ok_or word (Ok moved) e = refl
is-ok_or word (Err why) e = absurd (let bad : false ≡ true = e in cc)

moved-free : (word moved : Fields) (action : Move) → move_answer word action ≡ Ok moved → moved.busy ≡ word.busy
moved-free word moved Discard e = grind arith
moved-free word moved action e = grind arith

-- no move touches the busy bit
pub after-free : (word : Fields) (action : Option Move) → IsAllowedOn action word → (word_after action word).busy ≡ word.busy
after-free word None e = refl
after-free word (Some action) e = moved-free word (ok_or word (move_answer word action)) action (is-ok_or word (move_answer word action) e)

-- the guest has to expect what an allowed move makes of its page
pub after-may : (word : Fields) (body : Body) (action : Option Move) → IsAllowedOn action word → MayBecome (actual word body) (actual (word_after action word) (body_after action body))
after-may word body None e = MayBecome-refl (actual word body)
after-may word body (Some action) e =
    move-may_become word body action (word_after (Some action) word) (moved_body action body) (moves-allowed word body action e)
