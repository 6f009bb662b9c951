-- What a command's turn does once its page is found, whatever the command: reads, writes, loads, stores, and what a sync does at a page of
-- its file.
use Rattle.std.specs.Prelude.{ℕ, List, ◌%◌}
use Rattle.cmm_types.specs.declared.page.TheConstants.{PAGE}
use Rattle.cmm_types.specs.declared.page.Tag.TheVariants.{File}
use Rattle.cmm_types.specs.declared.command.Op.{Op}
use Rattle.cmm_types.specs.declared.turn.Turn.{Turn}
use Rattle.cmm_storage.specs.Program.{Program, bind}
use Rattle.guest_cache.specs.CacheView.{page_of}
use Rattle.guest_rules.specs.GuestState.{GuestState}
use Rattle.guest_rules.specs.Rows.{read_page, write_page, load_page, store_through}
use Rattle.guest_rules.specs.Syncs.{write_back}
use Rattle.guest_rules.specs.Turns.{read_next, done_next, file_pages, sync_found, written_next}

-- reads bytes of the page
abbrev pub read_turn : GuestState → (cpu : ℕ) → Op → (page off len : ℕ) → Program (GuestState × Turn)
read_turn g cpu op page off len = bind (read_page g.parts page (off % PAGE) len) (λ went. read_next g cpu op went.0 went.1)

-- writes bytes to the page
abbrev pub write_turn : GuestState → (cpu : ℕ) → Op → (page off : ℕ) → (bytes : List ℕ) → Program (GuestState × Turn)
write_turn g cpu op page off bytes = bind (write_page g.parts page (off % PAGE) bytes) (λ went. done_next g cpu op went.0 went.1)

-- loads bytes through an entry that shows the page
abbrev pub load_turn : GuestState → (cpu : ℕ) → Op → (page off len : ℕ) → Program (GuestState × Turn)
load_turn g cpu op page off len = bind (load_page g.parts page (off % PAGE) len) (λ went. read_next g cpu op went.0 went.1)

-- stores bytes through a writable entry that shows the page
abbrev pub store_turn : GuestState → (cpu : ℕ) → Op → (page off : ℕ) → (bytes : List ℕ) → Program (GuestState × Turn)
store_turn g cpu op page off bytes = bind (store_through g.parts page (off % PAGE) bytes) (λ went. done_next g cpu op went.0 went.1)

-- looks at a page of the file that is synced
abbrev pub sync_at : GuestState → (cpu : ℕ) → Op → (file index : ℕ) → Program (GuestState × Turn)
sync_at g cpu op file index = sync_found g cpu op (file_pages g.plan.files file) index (page_of g.parts.cache (File file index))

-- writes the page back, which is a page of the file that is synced
abbrev pub write_file_back : GuestState → (cpu : ℕ) → Op → (file index page : ℕ) → Program (GuestState × Turn)
write_file_back g cpu op file index page = bind (write_back g.parts page) (λ went. written_next g cpu op (file_pages g.plan.files file) index went.0 went.1)
