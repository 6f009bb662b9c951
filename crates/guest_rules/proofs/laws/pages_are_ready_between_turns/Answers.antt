use Rattle.cmm_flat.specs.Legal.{flat_of}
use Rattle.guest_rules.proofs.Ready.AnswerReady.{shown-ready, fill-ready, write_back-ready, page_out-ready, go-ready, clear-ready}
use Rattle.guest_rules.proofs.Ready.ReadyCalls.{tagged-takes, filling-can, writing-can, page_out-can, tearing-clears, full-can}
use Rattle.guest_rules.proofs.Ready.TearReady.{tearing-tears}
use Rattle.guest_rules.proofs.laws.pages_are_ready_between_turns.Goals as goal

pub returns-clause-takes : goal.returns-clause-takes
returns-clause-takes c g v d page tag fit tagged = tagged-takes g v d page tag fit tagged

pub returns-clause-can_fill : goal.returns-clause-can_fill
returns-clause-can_fill c g v d cpu page fit phase = filling-can g v d cpu page fit phase

pub returns-clause-can_write : goal.returns-clause-can_write
returns-clause-can_write c g v d cpu index page fit phase = writing-can g v d cpu index page fit phase

pub returns-clause-can_page_out : goal.returns-clause-can_page_out
returns-clause-can_page_out c g v d cpu page fit phase = page_out-can g v d cpu page fit phase

pub returns-clause-can_clear : goal.returns-clause-can_clear
returns-clause-can_clear c g v d cpu slot index pte fit phase entry = tearing-clears g v d cpu slot index pte fit (fit.teardowns.tearing cpu slot index phase) entry

pub returns-clause-can_make_room : goal.returns-clause-can_make_room
returns-clause-can_make_room c g v d fit full = full-can g v d fit full

pub returns-clause-filled : goal.returns-clause-filled
returns-clause-filled c g v d page tag fit below tagged uptodate =
    shown-ready (flat_of g.plan g.journal) g v d page tag fit (record { below = below; tagged = tagged; uptodate = uptodate })

pub returns-clause-fills : goal.returns-clause-fills
returns-clause-fills c g v d cpu page fit phase = fill-ready (flat_of g.plan g.journal) g v d cpu page fit phase

pub returns-clause-writes : goal.returns-clause-writes
returns-clause-writes c g v d cpu index page fit phase = write_back-ready (flat_of g.plan g.journal) g v d cpu index page fit phase

pub returns-clause-pages_out : goal.returns-clause-pages_out
returns-clause-pages_out c g v d cpu page fit phase = page_out-ready (flat_of g.plan g.journal) g v d cpu page fit phase

pub returns-clause-may_go : goal.returns-clause-may_go
returns-clause-may_go c g v d page tag fit below tagged uptodate =
    go-ready (flat_of g.plan g.journal) g v d page tag fit (record { below = below; tagged = tagged; uptodate = uptodate })

pub returns-clause-clears : goal.returns-clause-clears
returns-clause-clears c g v d cpu slot index pte fit phase entry = clear-ready (flat_of g.plan g.journal) g v d cpu slot index pte fit phase entry

pub returns-clause-tears : goal.returns-clause-tears
returns-clause-tears c g v d cpu slot index page fit phase there unlocked = tearing-tears g v d cpu slot index page fit (fit.teardowns.tearing cpu slot index phase) there unlocked
