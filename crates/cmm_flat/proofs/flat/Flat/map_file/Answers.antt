use Rattle.std.proofs.Common.{sym, ap, ◌∙◌, ◌≡◌, ◌*◌, true}
use Rattle.cmm_types.specs.declared.page.TheConstants.{PAGE}
use Rattle.cmm_flat.specs.State.{FlatState}
use Rattle.cmm_flat.specs.Flat.{in_file}
use Rattle.cmm_flat.specs.declared.mapping.Shown.TheVariants.{OfFile}
use Rattle.cmm_flat.specs.Laws.SoundLaws.{sound_inserted, shows_file}
use Rattle.cmm_flat.proofs.flat.Flat.map_file.Goals as goal

pub invariant_of-self-2 : goal.invariant_of-self-2
invariant_of-self-2 c =
    let files = c.self.inside.files.items in
    let within : in_file files c.args.file (PAGE * c.args.first) (PAGE * c.args.count) ≡ true =
    ap (λ (s : FlatState). in_file s.files c.args.file (PAGE * c.args.first) (PAGE * c.args.count)) c.self.view_is ∙ sym c.in_file.ensures ∙ c.if-not-in_file.false in
    let shows = shows_file files c.args.file c.args.first c.args.count c.args.writable c.in_ok-none.field-0 within c.in_ok-none.ensures c.requires.few in
    sound_inserted files c.self.inside.mappings c.insert.new.self c.args.process c.args.map
    (record { shown = OfFile c.args.file c.args.first c.args.writable; pins = c.in_ok-none.field-0 }) c.in_ok-insert.ensures.ok shows c.self.invariant
