-- How a caller shows what a release by a host's seat needs.
use Rattle.std.specs.Prelude.{◌≡◌, true, false, Some, Result, Ok, Err, is_ok, refl}
use Rattle.cmm_types.specs.declared.page.Move.{Move}
use Rattle.cmm_types.specs.declared.page.Refused.{Refused}
use Rattle.essa_state.specs.declared.fields.Fields.{Fields}
use Rattle.essa_state.specs.Moves.{move_answer}
use Rattle.essa_state.specs.PageBody.{Body, Makes, HostMove, moved_body}
use Rattle.state_words.specs.Steps.{IsAllowedOn, ok_or, word_after}

makes-ok : (word : Fields) (body : Body) (action : Move) (r : Result Fields Refused) → is_ok r ≡ true → Makes r action word body (ok_or word r) (moved_body action body)
makes-ok word body action (Ok moved) e = (refl, refl)
makes-ok word body action (Err why) e = absurd (let bad : false ≡ true = e in cc)

-- a move that isn't refused is one of the host's
pub moves-allowed : (word : Fields) (body : Body) (action : Move) → IsAllowedOn (Some action) word → HostMove word body action (word_after (Some action) word) (moved_body action body)
moves-allowed word body action e = makes-ok word body action (move_answer word action) e
