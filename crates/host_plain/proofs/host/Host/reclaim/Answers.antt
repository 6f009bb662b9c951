use Rattle.std.proofs.Common.{◌≡◌, ◌<◌, arith, rules, ap, subst, sym, ◌∙◌}
use Rattle.cmm_io.specs.Faults.{HasRisen}
use Rattle.cmm_io.specs.FailurePlan.{FailurePlan}
use Rattle.host_plain.specs.MemoryState.{MemoryState, resident_of}
use Rattle.host_plain.specs.Keeping.{faults_of}
use Rattle.host_plain.specs.HostState.{HostState, IsHost, HostMayMake, reclaim_of}
use Rattle.host_plain.proofs.Moving.{reclaimed-most, reclaimed-risen, reclaimed-short}
use Rattle.host_plain.proofs.Sound.{reclaimed-host, reclaimed-pages}
use Rattle.host_plain.proofs.host.Host.reclaim.Goals as goal

pub returns-clause-host : goal.returns-clause-host
returns-clause-host c = search rules

pub returns-clause-pages : goal.returns-clause-pages
returns-clause-pages c =
    let is : IsHost c.args.self.now = subst (λ (h : HostState). IsHost h) c.self.view_is c.self.invariant in
    subst (λ (k : HostState). HostMayMake c.args.self.now k) (sym (returns-clause-host c)) (reclaimed-pages c.args.self.now c.args.count is)

pub invariant_of-self : goal.invariant_of-self
invariant_of-self c =
    let is : IsHost c.args.self.now = subst (λ (h : HostState). IsHost h) c.self.view_is c.self.invariant in
    subst (λ (k : HostState). IsHost k) (sym (returns-clause-host c)) (reclaimed-host c.args.self.now c.args.count is c.requires.none_held)

count-is : (c : goal.After-reclaim) → c.reclaim.result.count ≡ (reclaim_of c.args.self.now c.args.count).count
count-is c = c.reclaim.ensures.count ∙ ap (λ (h : HostState). (reclaim_of h c.args.count).count) c.self.view_is

paging-is : (c : goal.After-reclaim) → c.reclaim.result.paging ≡ (reclaim_of c.args.self.now c.args.count).paging
paging-is c = c.reclaim.ensures.paging ∙ ap (λ (h : HostState). (reclaim_of h c.args.count).paging) c.self.view_is

pub returns-clause-most : goal.returns-clause-most
returns-clause-most c = omega (arith, count-is c, reclaimed-most c.args.self.now c.args.count)

pub returns-clause-risen : goal.returns-clause-risen
returns-clause-risen c = λ paging.
    let pager : c.reclaim.new.pager ≡ (reclaim_of c.args.self.now c.args.count).pager = c.reclaim.ensures.pager ∙ ap (λ (h : HostState). (reclaim_of h c.args.count).pager) c.self.view_is in
    subst (λ (p : FailurePlan). HasRisen (faults_of c.args.self.now.own) (faults_of p)) (sym pager) (reclaimed-risen c.args.self.now c.args.count (sym (paging-is c) ∙ paging))

pub returns-clause-short : goal.returns-clause-short
returns-clause-short c = λ few good.
    let is : IsHost c.args.self.now = subst (λ (h : HostState). IsHost h) c.self.view_is c.self.invariant in
    let memory : c.reclaim.new.self ≡ (reclaim_of c.args.self.now c.args.count).memory = c.reclaim.ensures.memory ∙ ap (λ (h : HostState). (reclaim_of h c.args.count).memory) c.self.view_is in
    let fewer : (reclaim_of c.args.self.now c.args.count).count < c.args.count = omega (arith, few, count-is c) in
    subst (λ (m : MemoryState). resident_of m.words ≡ 0) (sym memory) (reclaimed-short c.args.self.now c.args.count is c.requires.none_held fewer (sym (paging-is c) ∙ good))
