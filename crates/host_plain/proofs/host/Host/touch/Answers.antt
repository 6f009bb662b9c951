use Rattle.std.proofs.Common.{◌≡◌, ◌||◌, subst, sym, ap, ◌∙◌, slice_set, slice_index_or}
use Rattle.std.proofs.lemmas.List.{get_or_default}
use Rattle.host_plain.specs.HostState.{HostState, IsHost, HostStep, list_place, no_pager}
use Rattle.cmm_storage.specs.StorageCall.{Touch}
use Rattle.host_plain.proofs.Sound.{host_with}
use Rattle.host_plain.proofs.Follows.{touch-step}
use Rattle.host_plain.proofs.Others.{host_serves}
use Rattle.host_plain.proofs.host.Host.touch.Goals as goal

pub list_place-place-requires : goal.list_place-place-requires
list_place-place-requires c =
    let is : IsHost c.args.self.now = subst (λ (h : HostState). IsHost h) c.self.view_is c.self.invariant in
    is.below c.args.page c.requires.held

pub returns : goal.returns
returns c =
    let is : IsHost c.args.self.now = subst (λ (h : HostState). IsHost h) c.self.view_is c.self.invariant in
    let h : HostState = record {
      memory = c.self.inside.memory;
      starts = c.self.inside.starts.items;
      pagers = c.self.inside.pagers.items;
      own = c.self.inside.own;
      guest = c.self.inside.guest;
      held = c.self.inside.held;
      touched = c.self.inside.touched;
    } in
    let there : c.list_place-place.result ≡ list_place h c.args.page = c.list_place-place.ensures.place ∙ ap (λ (k : HostState). list_place k c.args.page) (sym c.self.view_is) in
    let pager : c.index_mut.result.now ≡ slice_index_or h.pagers h.guest no_pager = c.index_mut.ensures.value ∙ get_or_default h.pagers h.guest _ no_pager c.self.invariant.guest in
    host_serves c.args.self.now (Touch c.args.page c.touch-touched.result) _ is c.requires.held
    (subst (λ (k : HostState). HostStep k (Touch c.args.page c.touch-touched.result)
    (host_with h c.touch-touched.new.self (slice_set h.pagers h.guest c.touch-touched.new.pager) h.own h.held (h.touched || c.is_ok.result))) c.self.view_is
    (touch-step h c.args.page c.list_place-place.result c.touch-touched.result c.touch-touched.new.self c.index_mut.result.now
    c.touch-touched.new.pager c.is_ok.result there pager c.is_ok.ensures.value
    c.touch-touched.ensures.answer c.touch-touched.ensures.memory c.touch-touched.ensures.pager))

pub invariant_of-self : goal.invariant_of-self
invariant_of-self c = (returns c).leaves.sound
