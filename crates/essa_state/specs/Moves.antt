-- What each host move does to a state word, and when it is refused. The first case that fits decides.
use Rattle.std.specs.Prelude.{◌+◌, false, not, ◌&&◌, nat_lt, if◌then◌else◌, Result, Ok, Err, is_ok}
use Rattle.cmm_types.specs.declared.page.Content.TheVariants.{Resident, Preserved, Zero}
use Rattle.cmm_types.specs.declared.page.Move.{Move}
use Rattle.cmm_types.specs.declared.page.Move.TheVariants.{Discard, Preserve, Bring, Age}
use Rattle.cmm_types.specs.declared.page.Refused.{Refused}
use Rattle.cmm_types.specs.declared.page.Refused.TheVariants.{Stable, Changed, Absent, Volatile, Counted}
use Rattle.essa_state.specs.declared.fields.TheConstants.{LAST_COUNT}
use Rattle.essa_state.specs.declared.fields.Fields.{Fields}
use Rattle.essa_state.specs.StateWord.{is_stable, is_unused, is_discardable, is_potential, is_fully_volatile, is_resident, is_preserved, is_zero}

abbrev pub discarded : Fields → Fields
discarded w = record w { content = Zero; referenced = false; changed = false; count = if is_unused w.usage then w.count else w.count + 1 }

abbrev pub preserved : Fields → Fields
preserved w = record w { content = Preserved; referenced = false }

abbrev pub brought : Fields → Fields
brought w = record w { content = Resident }

abbrev pub aged : Fields → Fields
aged w = record w { referenced = false }

-- a discard of what a guest still says that it may want is counted, and there is none at the last count
abbrev pub discard_answer : Fields → Result Fields Refused
discard_answer w =
    if is_stable w.usage then Err Stable
    else if is_potential w.usage && w.changed then Err Changed
    else if is_zero w.content then Err Absent
    else if is_discardable w.usage && not (nat_lt w.count LAST_COUNT) then Err Counted
    else Ok (discarded w)

-- a page that may be discarded isn't preserved, but for a potentially volatile one, and for any at the last count
abbrev pub preserve_answer : Fields → Result Fields Refused
preserve_answer w =
    if not (is_resident w.content) then Err Absent
    else if is_unused w.usage then Err Volatile
    else if is_fully_volatile w.usage && nat_lt w.count LAST_COUNT then Err Volatile
    else Ok (preserved w)

abbrev pub move_answer : Fields → Move → Result Fields Refused
move_answer w Discard = discard_answer w
move_answer w Preserve = preserve_answer w
move_answer w Bring = if is_preserved w.content then Ok (brought w) else Err Absent
move_answer w Age = if is_resident w.content then Ok (aged w) else Err Absent

-- the move by which a host gets a resident page's frame: Discard where it isn't refused, and Preserve otherwise
abbrev pub reclaiming : Fields → Move
reclaiming w = if is_ok (discard_answer w) then Discard else Preserve
