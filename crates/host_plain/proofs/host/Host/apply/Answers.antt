use Rattle.std.proofs.Common.{◌≡◌, ◌<◌, ◌+◌, ◌≤◌, length, arith, subst, sym, ap, ◌∙◌, Result}
use Rattle.std.proofs.lemmas.Grind.{common_steps}
use Rattle.cmm_types.specs.declared.plan.TheConstants.{MAX_TOTAL_PAGES}
use Rattle.host_plain.specs.HostMoves.{applied}
use Rattle.host_plain.specs.HostState.{HostState, IsHost, first_place, move_of, after_move, ApplyTells, HostMayMake}
use Rattle.host_plain.proofs.Places.{place-below}
use Rattle.host_plain.specs.declared.moves.ApplyError.{ApplyError}
use Rattle.host_plain.proofs.Moving.{moved-tells}
use Rattle.host_plain.proofs.Sound.{moved-host, moved-pages, move-step}
use Rattle.host_plain.proofs.host.Host.apply.Goals as goal

pub overflow_add-place : goal.overflow_add-place
overflow_add-place c =
    let is : IsHost c.args.self.now = subst (λ (h : HostState). IsHost h) c.self.view_is c.self.invariant in
    let start : c.index.result.now ≡ first_place c.args.self.now c.args.guest = grind (arith, common_steps) in
    let most : length c.args.self.now.memory.words ≤ MAX_TOTAL_PAGES = is.memory.few in
    omega (arith, start, most, place-below c.args.self.now c.args.guest c.args.page is c.requires.guest c.requires.page)

pub apply-requires : goal.apply-requires
apply-requires c =
    let is : IsHost c.args.self.now = subst (λ (h : HostState). IsHost h) c.self.view_is c.self.invariant in
    let start : c.index.result.now ≡ first_place c.args.self.now c.args.guest = grind (arith, common_steps) in
    let inside : c.index.result.now + c.args.page < length c.args.self.now.memory.words =
    omega (arith, start, place-below c.args.self.now c.args.guest c.args.page is c.requires.guest c.requires.page) in
    record { place = subst (λ (h : HostState). c.index.result.now + c.args.page < length h.memory.words) (sym c.self.view_is) inside }

pub returns-clause-host : goal.returns-clause-host
returns-clause-host c =
    let h : HostState = record {
      memory = c.self.inside.memory;
      starts = c.self.inside.starts.items;
      pagers = c.self.inside.pagers.items;
      own = c.self.inside.own;
      guest = c.self.inside.guest;
      held = c.self.inside.held;
      touched = c.self.inside.touched;
    } in
    let start : c.index.result.now ≡ first_place h c.args.guest = grind (arith, common_steps) in
    let there : c.index.result.now + c.args.page ≡ first_place h c.args.guest + c.args.page = omega (arith, start) in
    move-step h c.args.guest c.args.page c.args.action (c.index.result.now + c.args.page) c.apply.new.self c.apply.new.pager there c.apply.ensures.memory c.apply.ensures.pager
    ∙ ap (λ (k : HostState). after_move k c.args.guest c.args.page c.args.action) c.self.view_is

pub returns-clause-pages : goal.returns-clause-pages
returns-clause-pages c =
    let is : IsHost c.args.self.now = subst (λ (h : HostState). IsHost h) c.self.view_is c.self.invariant in
    subst (λ (k : HostState). HostMayMake c.args.self.now k) (sym (returns-clause-host c)) (moved-pages c.args.self.now c.args.guest c.args.page c.args.action is c.requires.guest c.requires.page)

pub invariant_of-self : goal.invariant_of-self
invariant_of-self c =
    let is : IsHost c.args.self.now = subst (λ (h : HostState). IsHost h) c.self.view_is c.self.invariant in
    subst (λ (k : HostState). IsHost k) (sym (returns-clause-host c)) (moved-host c.args.self.now c.args.guest c.args.page c.args.action is c.requires.guest c.requires.page c.requires.none_held)

pub returns-clause-answer : goal.returns-clause-answer
returns-clause-answer c =
    let h : HostState = record {
      memory = c.self.inside.memory;
      starts = c.self.inside.starts.items;
      pagers = c.self.inside.pagers.items;
      own = c.self.inside.own;
      guest = c.self.inside.guest;
      held = c.self.inside.held;
      touched = c.self.inside.touched;
    } in
    let start : c.index.result.now ≡ first_place h c.args.guest = grind (arith, common_steps) in
    let there : c.index.result.now + c.args.page ≡ first_place h c.args.guest + c.args.page = omega (arith, start) in
    c.apply.ensures.answer ∙ ap (λ p. (applied h.memory p c.args.action h.own).answer) there
    ∙ ap (λ (k : HostState). (move_of k c.args.guest c.args.page c.args.action).answer) c.self.view_is

pub returns-clause-tells : goal.returns-clause-tells
returns-clause-tells c =
    let is : IsHost c.args.self.now = subst (λ (h : HostState). IsHost h) c.self.view_is c.self.invariant in
    let told : ApplyTells c.apply.result c.args.self.now c.args.guest c.args.page c.args.action (after_move c.args.self.now c.args.guest c.args.page c.args.action) =
    subst (λ (r : Result Unit ApplyError). ApplyTells r c.args.self.now c.args.guest c.args.page c.args.action (after_move c.args.self.now c.args.guest c.args.page c.args.action))
    (sym (returns-clause-answer c)) (moved-tells c.args.self.now c.args.guest c.args.page c.args.action is c.requires.guest c.requires.page c.requires.none_held) in
    subst (λ (k : HostState). ApplyTells c.apply.result c.args.self.now c.args.guest c.args.page c.args.action k) (sym (returns-clause-host c)) told
