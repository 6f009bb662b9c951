-- The fields that stand in a number's bits, whether or not the number is a permitted word.
use Rattle.std.specs.Prelude.{ℕ, ◌/◌, ◌%◌, ◌^◌, ◌==◌, if◌then◌else◌}
use Rattle.cmm_types.specs.declared.page.Usage.{Usage}
use Rattle.cmm_types.specs.declared.page.Usage.TheVariants.{S, U, P, V}
use Rattle.cmm_types.specs.declared.page.Content.{Content}
use Rattle.cmm_types.specs.declared.page.Content.TheVariants.{Resident, Preserved, Zero}
use Rattle.essa_state.specs.declared.fields.Fields.{Fields}

abbrev pub usage_with_code : ℕ → Usage
usage_with_code code = if code == 0 then S else if code == 1 then U else if code == 2 then P else V

abbrev pub content_with_code : ℕ → Content
content_with_code code = if code == 0 then Resident else if code == 1 then Preserved else Zero

-- the fields of bits 0 to 31, and of bits 32 to 63
abbrev pub fields_from : (low count : ℕ) → Fields
fields_from low count = record {
  usage = usage_with_code (low % 4);
  content = content_with_code (low / 4 % 4);
  referenced = low / 16 % 2 == 1;
  changed = low / 32 % 2 == 1;
  busy = low / 64 % 2 == 1;
  count = count;
}

abbrev pub fields_at : ℕ → Fields
fields_at raw = fields_from (raw % 2 ^ 32) (raw / 2 ^ 32)
