-- A turn that enters a load or a store as neither refused nor failed went through an entry that shows the page.
use Rattle.std.specs.Prelude.{◌≡◌, ℕ, nat_lt, ◌+◌, ◌/◌, ◌%◌, ◌++◌, List, [], ◌∷◌, length, Bool, true, false, ◌&&◌, not, if◌then◌else◌, Option, Some, None, Result, Ok, Err}
use Rattle.std.proofs.Common.{refl, sym, ap, subst, arith, ◌∙◌, length-append}
use Rattle.std.proofs.lemmas.List.{append_cancel_left}
use Rattle.cmm_types.specs.declared.page.TheConstants.{PAGE}
use Rattle.cmm_types.specs.declared.page.Tag.{Tag}
use Rattle.cmm_types.specs.declared.page.Tag.TheVariants.{Anon}
use Rattle.cmm_types.specs.declared.command.Op.{Op}
use Rattle.cmm_types.specs.declared.command.Op.TheVariants.{Unmap, Load, Store}
use Rattle.cmm_types.specs.declared.command.Entry.{Entry}
use Rattle.cmm_types.specs.declared.command.FlatRefusal.{FlatRefusal}
use Rattle.cmm_types.specs.declared.command.Reply.{Reply}
use Rattle.cmm_types.specs.declared.command.Reply.TheVariants.{Done, Bytes, Refused, Fail}
use Rattle.cmm_types.specs.declared.turn.Turn.{Turn}
use Rattle.cmm_types.specs.declared.turn.Turn.TheVariants.{Moved, Finished, Waits, Again, Idle}
use Rattle.cmm_flat.specs.Legal.{command_of, process_of}
use Rattle.cmm_io.specs.DiskCall.{DiskCall}
use Rattle.cmm_storage.specs.declared.storage.Busy.{Busy}
use Rattle.cmm_storage.specs.StorageCall.{StorageCall}
use Rattle.cmm_storage.specs.Program.{Program, done, Does}
use Rattle.cmm_storage.specs.Views.{page_called as named_page}
use Rattle.guest_pages.specs.PagesView.{info_at}
use Rattle.guest_cache.specs.CacheView.{page_of}
use Rattle.guest_maps.specs.declared.slot.Pte.{Pte}
use Rattle.guest_maps.specs.declared.slot.Shown.{Shown}
use Rattle.guest_maps.specs.declared.slot.Shown.TheVariants.{File as OfFile, Anon as OfItsOwn}
use Rattle.guest_maps.specs.declared.slot.Slot.{Slot}
use Rattle.guest_maps.specs.MapsView.{find_slot, slot_at, entry_at, tag_at, freed_slot}
use Rattle.host_plain.specs.HostState.{HostState, HostStep, Leaves}
use Rattle.guest_rules.specs.declared.parts.Parts.{Parts}
use Rattle.guest_rules.specs.declared.processor.Phase.{Phase}
use Rattle.guest_rules.specs.declared.processor.Phase.TheVariants.{Start, Fill, Room as AtRoom, Sync as AtSync, SyncWrite, Teardown}
use Rattle.guest_rules.specs.declared.outcome.Filled.{Filled}
use Rattle.guest_rules.specs.declared.outcome.Filled.TheVariants.{Done as FilledDone, Again as FilledAgain, Fail as FilledFail}
use Rattle.guest_rules.specs.declared.outcome.Missed.{Missed}
use Rattle.guest_rules.specs.declared.outcome.Missed.TheVariants.{Gone as MissedGone, Again as MissedAgain, Fail as MissedFail}
use Rattle.guest_rules.specs.declared.outcome.Room.{Room}
use Rattle.guest_rules.specs.declared.outcome.Room.TheVariants.{Freed, Locked, Waits as RoomWaits, NoPage, Again as RoomAgain}
use Rattle.guest_rules.specs.declared.outcome.Placed.{Placed}
use Rattle.guest_rules.specs.declared.outcome.Placed.TheVariants.{Done as PlaceDone, Gone as PlaceGone, Again as PlaceAgain}
use Rattle.guest_rules.specs.GuestState.{GuestState, processor_at, with_parts, with_phase, entered, next_command}
use Rattle.guest_rules.specs.Rows.{fill, resolve, clear_entry, released, tear_page, load_page, store_through}
use Rattle.guest_rules.specs.Syncs.{write_back}
use Rattle.guest_rules.specs.MakeRoom.{make_room}
use Rattle.guest_rules.specs.Turns.{turn, turn_on, turn_in, start_turn, start_refused, start_accepted, start_mapped, start_entry, start_at, start_found, start_free, start_locked}
use Rattle.guest_rules.specs.Turns.{begin_turn, begin_taken, use_turn, resolve_turn, resolve_in, resolve_next, hit_turn, read_next, done_next, missed_next, fill_turn, fill_next, room_turn, room_next}
use Rattle.guest_rules.specs.Turns.{page_out_turn, sync_turn, write_back_turn, torn_past, torn_next, teardown_entry, teardown_owned, teardown_page, teardown_shown, teardown_in, teardown_turn}
use Rattle.guest_rules.specs.Turns.{refusal_in}
use Rattle.cmm_world.proofs.Unbound.{halfway}
use Rattle.cmm_world.proofs.Reaching.{IsReached, Through, load-through, store-through}

-- neither a refusal nor a failure
abbrev pub IsAnswer : Reply → Type 0
IsAnswer Done = Unit {0}
IsAnswer (Bytes bytes) = Unit {0}
IsAnswer (Refused refusal) = ⊥
IsAnswer (Fail cause) = ⊥

pub same_entry : (xs : List Entry) (x y : Entry) → xs ++ x ∷ [] ≡ xs ++ y ∷ [] → x ≡ y
same_entry xs x y same = let one : x ∷ [] ≡ y ∷ [] = append_cancel_left xs (x ∷ []) (y ∷ []) same in cc

pub one_more : (xs : List Entry) (x : Entry) → xs ≡ xs ++ x ∷ [] → ⊥
one_more xs x same = omega (arith, ap length same, length-append xs (x ∷ []))

-- the guest's journal got this entry, which is neither a refusal nor a failure
pub record Gets (g h : GuestState) (entry : Entry) : Type 0 where
  pub got : h.journal ≡ g.journal ++ entry ∷ []
  pub answer : IsAnswer entry.reply

-- an entry shows a page at an offset of a process's mapping, and the page was reached
pub record IsLocated (parts : Parts) (process number off : ℕ) (writes : Bool) (k : HostState) : Type 0 where
  pub slot : ℕ
  pub pte : Pte
  pub found : find_slot parts.maps process number ≡ Some slot
  pub entry : entry_at parts.maps slot (off / PAGE) ≡ Some pte
  pub reached : IsReached k pte.page writes

module _ {S D : Type 0} (ss : S → StorageCall → S → Type 0) (ds : D → DiskCall → D → Type 0) (sv : S → HostState)
    (sm : (s : S) (call : StorageCall) (t : S) → ss s call t → HostStep (sv s) call (sv t))
    (sl : (s : S) (call : StorageCall) (t : S) → ss s call t → Leaves (sv s) (named_page call) (sv t)) where
  -- a turn's program that finished, with this entry
  abbrev Ends : GuestState → Program (GuestState × Turn) → S → D → GuestState → S → D → Type 0
  Ends g p s d h t e = Does {A = GuestState × Turn} ss ds p s d (h, Finished) t e

  ended : (g h : GuestState) (r : Turn) → ◌≡◌ {A = GuestState × Turn} (h, Finished) (g, r) → r ≡ Finished
  ended g h r same = sym (ap (λ (q : GuestState × Turn). q.1) same)

  not_moved : (g h : GuestState) → ◌≡◌ {A = GuestState × Turn} (h, Finished) (g, Moved) → ⊥
  not_moved g h same = let bad : Moved ≡ Finished = ended g h Moved same in cc

  not_waiting : (g h : GuestState) (page owner : ℕ) → ◌≡◌ {A = GuestState × Turn} (h, Finished) (g, Waits page owner) → ⊥
  not_waiting g h page owner same = let bad : Waits page owner ≡ Finished = ended g h (Waits page owner) same in cc

  not_again : (g h : GuestState) (why : _) → ◌≡◌ {A = GuestState × Turn} (h, Finished) (g, Again why) → ⊥
  not_again g h why same = let bad : Again why ≡ Finished = ended g h (Again why) same in cc

  not_idle : (g h : GuestState) → ◌≡◌ {A = GuestState × Turn} (h, Finished) (g, Idle) → ⊥
  not_idle g h same = let bad : Idle ≡ Finished = ended g h Idle same in cc

  -- another reply than the one that was entered
  not_entered : (g h f : GuestState) (cpu : ℕ) (op : Op) (reply : Reply) (entry : Entry) → f.journal ≡ g.journal → (IsAnswer reply → ⊥) → Gets g h entry
      → ◌≡◌ {A = GuestState × Turn} (h, Finished) (entered f cpu op reply, Finished) → ⊥
  unfolding entered
  not_entered g h f cpu op reply entry kept bad gets same =
      let its : Entry = record { cpu = cpu; k = (processor_at f cpu).place; op = op; reply = reply } in
      let journal : h.journal ≡ f.journal ++ its ∷ [] = ap (λ (q : GuestState × Turn). q.0.journal) same in
      let both : entry ≡ its = same_entry g.journal entry its (sym gets.got ∙ journal ∙ ap (λ (xs : List Entry). xs ++ its ∷ []) kept) in
      bad (subst (λ (x : Entry). IsAnswer x.reply) both gets.answer)

  missed_next-never : (g : GuestState) (cpu : ℕ) (op : Op) (parts : Parts) (missed : Missed) (s : S) (d : D) (h : GuestState) (t : S) (e : D) (entry : Entry) → Gets g h entry
      → Ends g (missed_next g cpu op parts missed) s d h t e → ⊥
  missed_next-never g cpu op parts MissedGone s d h t e entry gets (ea, es, ed) = not_moved _ h ea
  missed_next-never g cpu op parts (MissedAgain why) s d h t e entry gets (ea, es, ed) = not_again _ h why ea
  missed_next-never g cpu op parts (MissedFail cause) s d h t e entry gets (ea, es, ed) = not_entered g h (with_parts g parts) cpu op (Fail cause) entry refl (λ bad. bad) gets ea

  fill_next-never : (g : GuestState) (cpu : ℕ) (op : Op) (parts : Parts) (went : Filled) (s : S) (d : D) (h : GuestState) (t : S) (e : D) (entry : Entry) → Gets g h entry
      → Ends g (fill_next g cpu op parts went) s d h t e → ⊥
  fill_next-never g cpu op parts FilledDone s d h t e entry gets (ea, es, ed) = not_moved _ h ea
  fill_next-never g cpu op parts (FilledAgain why) s d h t e entry gets (ea, es, ed) = not_again _ h why ea
  fill_next-never g cpu op parts (FilledFail cause) s d h t e entry gets (ea, es, ed) = not_entered g h (with_parts g parts) cpu op (Fail cause) entry refl (λ bad. bad) gets ea

  fill_turn-never : (g : GuestState) (cpu : ℕ) (op : Op) (page : ℕ) (s : S) (d : D) (h : GuestState) (t : S) (e : D) (entry : Entry) → Gets g h entry
      → Ends g (fill_turn g cpu op page) s d h t e → ⊥
  unfolding fill_turn
  fill_turn-never g cpu op page s d h t e entry gets run =
      let x = halfway ss ds (fill g.parts page) (λ (went : Parts × Filled). fill_next g cpu op went.0 went.1) s d (h, Finished) t e run in
      fill_next-never g cpu op x.answer.0 x.answer.1 x.storage x.disk h t e entry gets x.second

  page_out_turn-never : (g : GuestState) (cpu : ℕ) (op : Op) (page : ℕ) (s : S) (d : D) (h : GuestState) (t : S) (e : D) (entry : Entry) → Gets g h entry
      → Ends g (page_out_turn g cpu op page) s d h t e → ⊥
  unfolding page_out_turn
  page_out_turn-never g cpu op page s d h t e entry gets run =
      let x = halfway ss ds (write_back g.parts page) (λ (went : Parts × Filled). fill_next g cpu op went.0 went.1) s d (h, Finished) t e run in
      fill_next-never g cpu op x.answer.0 x.answer.1 x.storage x.disk h t e entry gets x.second

  room_next-never : (g : GuestState) (cpu : ℕ) (op : Op) (parts : Parts) (went : Room) (s : S) (d : D) (h : GuestState) (t : S) (e : D) (entry : Entry) → Gets g h entry
      → Ends g (room_next g cpu op parts went) s d h t e → ⊥
  room_next-never g cpu op parts Freed s d h t e entry gets (ea, es, ed) = not_moved _ h ea
  room_next-never g cpu op parts (Locked page) s d h t e entry gets (ea, es, ed) = not_moved _ h ea
  room_next-never g cpu op parts (RoomWaits page owner) s d h t e entry gets (ea, es, ed) = not_waiting _ h page owner ea
  room_next-never g cpu op parts (NoPage pinned unslotted) s d h t e entry gets (ea, es, ed) = not_entered g h (with_parts g parts) cpu op _ entry refl (λ bad. bad) gets ea
  room_next-never g cpu op parts (RoomAgain why) s d h t e entry gets (ea, es, ed) = not_again _ h why ea

  room_turn-never : (g : GuestState) (cpu : ℕ) (op : Op) (s : S) (d : D) (h : GuestState) (t : S) (e : D) (entry : Entry) → Gets g h entry
      → Ends g (room_turn g cpu op) s d h t e → ⊥
  unfolding room_turn
  room_turn-never g cpu op s d h t e entry gets run =
      let x = halfway ss ds (make_room g.parts cpu) (λ (went : Parts × Room). room_next g cpu op went.0 went.1) s d (h, Finished) t e run in
      room_next-never g cpu op x.answer.0 x.answer.1 x.storage x.disk h t e entry gets x.second

  resolve_next-never : (g : GuestState) (parts : Parts) (went : Placed) (s : S) (d : D) (h : GuestState) (t : S) (e : D) → Ends g (resolve_next g parts went) s d h t e → ⊥
  resolve_next-never g parts PlaceDone s d h t e (ea, es, ed) = not_moved _ h ea
  resolve_next-never g parts PlaceGone s d h t e (ea, es, ed) = not_moved _ h ea
  resolve_next-never g parts (PlaceAgain why) s d h t e (ea, es, ed) = not_again _ h why ea

  resolve_in-never : (g : GuestState) (page number off : ℕ) (writable : Bool) (process : ℕ) (slot : Option ℕ) (s : S) (d : D) (h : GuestState) (t : S) (e : D)
      → Ends g (resolve_in g page number off writable process slot) s d h t e → ⊥
  resolve_in-never g page number off writable process None s d h t e (ea, es, ed) = not_idle _ h ea
  resolve_in-never g page number off writable process (Some slot) s d h t e run =
      let x = halfway ss ds (resolve g.parts page slot (off / PAGE) writable) (λ (went : Parts × Placed). resolve_next g went.0 went.1) s d (h, Finished) t e run in
      resolve_next-never g x.answer.0 x.answer.1 x.storage x.disk h t e x.second

  begin_taken-never : (g : GuestState) (cpu : ℕ) (tag : Tag) (page : ℕ) (r : Result Unit Busy) (s : S) (d : D) (h : GuestState) (t : S) (e : D) → Ends g (begin_taken g cpu tag page r) s d h t e → ⊥
  begin_taken-never g cpu tag page (Ok u) s d h t e (old, m, ordered, (n, put, (ea, es, ed))) = not_moved _ h ea
  begin_taken-never g cpu tag page (Err busy) s d h t e (ea, es, ed) = not_again _ h _ ea

  begin_turn-never : (g : GuestState) (cpu : ℕ) (tag : Tag) (page : ℕ) (s : S) (d : D) (h : GuestState) (t : S) (e : D) → Ends g (begin_turn g cpu tag page) s d h t e → ⊥
  unfolding begin_turn
  begin_turn-never g cpu tag page s d h t e (r, m, now, rest) = begin_taken-never g cpu tag page r m d h t e rest

  -- a teardown that ends has its entry already
  torn_past-never : (g : GuestState) (cpu slot index count : ℕ) (h : GuestState) (entry : Entry) → Gets g h entry → ◌≡◌ {A = GuestState × Turn} (h, Finished) (torn_past g cpu slot index count) → ⊥
  unfolding next_command
  torn_past-never g cpu slot index count h entry gets same = of (nat_lt (index + 1) count) same
    where
      of : (more : Bool)
          → ◌≡◌ {A = GuestState × Turn} (h, Finished) (if more then (with_phase g cpu (Teardown slot (index + 1)), Moved) else (
            next_command (with_parts g (record g.parts { maps = freed_slot g.parts.maps slot })) cpu,
            Finished,
          ))
          → ⊥
      of true is = not_moved _ h is
      of false is = one_more g.journal entry (sym (ap (λ (q : GuestState × Turn). q.0.journal) is) ∙ gets.got)

  torn_next-never : (g : GuestState) (cpu slot index count : ℕ) (parts : Parts) (went : Placed) (s : S) (d : D) (h : GuestState) (t : S) (e : D) (entry : Entry) → Gets g h entry
      → Ends g (torn_next g cpu slot index count parts went) s d h t e → ⊥
  torn_next-never g cpu slot index count parts PlaceDone s d h t e entry gets (ea, es, ed) =
      torn_past-never (with_parts g parts) cpu slot index count h entry (record { got = gets.got; answer = gets.answer }) ea
  torn_next-never g cpu slot index count parts PlaceGone s d h t e entry gets (ea, es, ed) =
      torn_past-never (with_parts g parts) cpu slot index count h entry (record { got = gets.got; answer = gets.answer }) ea
  torn_next-never g cpu slot index count parts (PlaceAgain why) s d h t e entry gets (ea, es, ed) = not_again _ h why ea

  teardown_entry-never : (g : GuestState) (cpu slot index count : ℕ) (pte : Option Pte) (s : S) (d : D) (h : GuestState) (t : S) (e : D) (entry : Entry) → Gets g h entry
      → Ends g (teardown_entry g cpu slot index count pte) s d h t e → ⊥
  teardown_entry-never g cpu slot index count None s d h t e entry gets (ea, es, ed) = torn_past-never g cpu slot index count h entry gets ea
  teardown_entry-never g cpu slot index count (Some pte) s d h t e entry gets run =
      let x = halfway ss ds (clear_entry g.parts slot index pte) (λ (went : Parts × Placed). torn_next g cpu slot index count went.0 went.1) s d (h, Finished) t e run in
      torn_next-never g cpu slot index count x.answer.0 x.answer.1 x.storage x.disk h t e entry gets x.second

  teardown_owned-never : (g : GuestState) (cpu slot index count page : ℕ) (owner : Option ℕ) (s : S) (d : D) (h : GuestState) (t : S) (e : D) (entry : Entry) → Gets g h entry
      → Ends g (teardown_owned g cpu slot index count page owner) s d h t e → ⊥
  teardown_owned-never g cpu slot index count page (Some owner) s d h t e entry gets (ea, es, ed) = not_waiting _ h page owner ea
  teardown_owned-never g cpu slot index count page None s d h t e entry gets run =
      let x = halfway ss ds (tear_page g.parts slot index page) (λ (went : Parts × Placed). torn_next g cpu slot index count went.0 went.1) s d (h, Finished) t e run in
      torn_next-never g cpu slot index count x.answer.0 x.answer.1 x.storage x.disk h t e entry gets x.second

  teardown_page-never : (g : GuestState) (cpu slot index count : ℕ) (page : Option ℕ) (s : S) (d : D) (h : GuestState) (t : S) (e : D) (entry : Entry) → Gets g h entry
      → Ends g (teardown_page g cpu slot index count page) s d h t e → ⊥
  teardown_page-never g cpu slot index count None s d h t e entry gets (ea, es, ed) =
      torn_past-never (with_parts g (released g.parts slot index)) cpu slot index count h entry (record { got = gets.got; answer = gets.answer }) ea
  teardown_page-never g cpu slot index count (Some page) s d h t e entry gets run =
      teardown_owned-never g cpu slot index count page (info_at g.parts.pages page).owner s d h t e entry gets run

  teardown_shown-never : (g : GuestState) (cpu slot index count : ℕ) (shown : Shown) (s : S) (d : D) (h : GuestState) (t : S) (e : D) (entry : Entry) → Gets g h entry
      → Ends g (teardown_shown g cpu slot index count shown) s d h t e → ⊥
  teardown_shown-never g cpu slot index count (OfFile file first writable) s d h t e entry gets run =
      teardown_entry-never g cpu slot index count (entry_at g.parts.maps slot index) s d h t e entry gets run
  teardown_shown-never g cpu slot index count OfItsOwn s d h t e entry gets run =
      teardown_page-never g cpu slot index count (page_of g.parts.cache (Anon slot index)) s d h t e entry gets run

  teardown_in-never : (g : GuestState) (cpu slot index : ℕ) (mapping : Option Slot) (s : S) (d : D) (h : GuestState) (t : S) (e : D) (entry : Entry) → Gets g h entry
      → Ends g (teardown_in g cpu slot index mapping) s d h t e → ⊥
  teardown_in-never g cpu slot index None s d h t e entry gets (ea, es, ed) = not_idle _ h ea
  teardown_in-never g cpu slot index (Some mapping) s d h t e entry gets run = teardown_shown-never g cpu slot index mapping.count mapping.shown s d h t e entry gets run

  teardown_turn-never : (g : GuestState) (cpu slot index : ℕ) (s : S) (d : D) (h : GuestState) (t : S) (e : D) (entry : Entry) → Gets g h entry
      → Ends g (teardown_turn g cpu slot index) s d h t e → ⊥
  unfolding teardown_turn
  teardown_turn-never g cpu slot index s d h t e entry gets run = teardown_in-never g cpu slot index (slot_at g.parts.maps slot) s d h t e entry gets run

  -- what a load and a store at an offset of a mapping share
  pub record IsMapped (g : GuestState) (cpu : ℕ) (op : Op) (number off : ℕ) (writes : Bool) : Type 0 where
    pub no_unmap : (other : ℕ) → op ≡ Unmap other → ⊥
    pub accepted : start_accepted g cpu op ≡ start_mapped g cpu op writes off (find_slot g.parts.maps (process_of g.plan cpu) number)
    pub uses : (page : ℕ) → use_turn g cpu op page ≡ resolve_turn g cpu page number off writes
    pub syncs : (index : ℕ) → ◌≡◌ {A = Program (GuestState × Turn)} (sync_turn g cpu op index) (done (g, Idle))
    pub writes_back : (index page : ℕ) → ◌≡◌ {A = Program (GuestState × Turn)} (write_back_turn g cpu op index page) (done (g, Idle))
    pub hits : (page : ℕ) (s : S) (d : D) (h : GuestState) (t : S) (e : D) (entry : Entry) → Gets g h entry → Ends g (hit_turn g cpu op page) s d h t e
        → Through g.parts page writes h.parts (sv t)

  read_next-through : (g : GuestState) (cpu : ℕ) (op : Op) (page : ℕ) (parts : Parts) (got : Result (List ℕ) Missed) (s m : S) (d n : D) (h : GuestState) (t : S) (e : D) (entry : Entry)
      → ((bytes : List ℕ) → got ≡ Ok bytes → Through g.parts page false parts (sv m)) → Gets g h entry → Ends g (read_next g cpu op parts got) m n h t e
      → Through g.parts page false h.parts (sv t)
  unfolding entered
  read_next-through g cpu op page parts (Ok bytes) s m d n h t e entry through gets (ea, es, ed) =
      let x = through bytes refl in
      record {
        tables = ap (λ (q : GuestState × Turn). q.0.parts) ea ∙ x.tables;
        reached = subst (λ q. IsReached (sv q) page false) (sym es) x.reached;
      }
  read_next-through g cpu op page parts (Err missed) s m d n h t e entry through gets run = absurd (missed_next-never g cpu op parts missed m n h t e entry gets run)

  done_next-through : (g : GuestState) (cpu : ℕ) (op : Op) (page : ℕ) (parts : Parts) (got : Result Unit Missed) (s m : S) (d n : D) (h : GuestState) (t : S) (e : D) (entry : Entry)
      → ((u : Unit) → got ≡ Ok u → Through g.parts page true parts (sv m)) → Gets g h entry → Ends g (done_next g cpu op parts got) m n h t e
      → Through g.parts page true h.parts (sv t)
  unfolding entered
  done_next-through g cpu op page parts (Ok u) s m d n h t e entry through gets (ea, es, ed) =
      let x = through u refl in
      record {
        tables = ap (λ (q : GuestState × Turn). q.0.parts) ea ∙ x.tables;
        reached = subst (λ q. IsReached (sv q) page true) (sym es) x.reached;
      }
  done_next-through g cpu op page parts (Err missed) s m d n h t e entry through gets run = absurd (missed_next-never g cpu op parts missed m n h t e entry gets run)

  pub load_mapped : (g : GuestState) (cpu number off len : ℕ) → IsMapped g cpu (Load number off len) number off false
  unfolding use_turn sync_turn write_back_turn hit_turn
  load_mapped g cpu number off len = record {
    no_unmap = λ other is. let bad : Load number off len ≡ Unmap other = is in cc;
    accepted = refl;
    uses = λ page. refl;
    syncs = λ index. refl;
    writes_back = λ index page. refl;
    hits = λ page s d h t e entry gets run.
        let next : Parts × Result (List ℕ) Missed → Program (GuestState × Turn) = λ went. read_next g cpu (Load number off len) went.0 went.1 in
        let x = halfway ss ds (load_page g.parts page (off % PAGE) len) next s d (h, Finished) t e run in
        read_next-through g cpu (Load number off len) page x.answer.0 x.answer.1 s x.storage d x.disk h t e entry
        (λ bytes is. load-through ss ds sv sm sl g.parts page (off % PAGE) len s d x.answer.0 bytes x.storage x.disk
        (subst (λ (r : Result (List ℕ) Missed). Does {A = Parts × Result (List ℕ) Missed} ss ds (load_page g.parts page (off % PAGE) len) s d (x.answer.0, r) x.storage x.disk) is x.first))
        gets x.second;
  }

  pub store_mapped : (g : GuestState) (cpu number off : ℕ) (bytes : List ℕ) → IsMapped g cpu (Store number off bytes) number off true
  unfolding use_turn sync_turn write_back_turn hit_turn
  store_mapped g cpu number off bytes = record {
    no_unmap = λ other is. let bad : Store number off bytes ≡ Unmap other = is in cc;
    accepted = refl;
    uses = λ page. refl;
    syncs = λ index. refl;
    writes_back = λ index page. refl;
    hits = λ page s d h t e entry gets run.
        let next : Parts × Result Unit Missed → Program (GuestState × Turn) = λ went. done_next g cpu (Store number off bytes) went.0 went.1 in
        let x = halfway ss ds (store_through g.parts page (off % PAGE) bytes) next s d (h, Finished) t e run in
        done_next-through g cpu (Store number off bytes) page x.answer.0 x.answer.1 s x.storage d x.disk h t e entry
        (λ u is. store-through ss ds sv sm sl g.parts page (off % PAGE) bytes s d x.answer.0 u x.storage x.disk
        (subst (λ (r : Result Unit Missed). Does {A = Parts × Result Unit Missed} ss ds (store_through g.parts page (off % PAGE) bytes) s d (x.answer.0, r) x.storage x.disk) is x.first))
        gets x.second;
  }

  -- the command's page has no entry that serves
  locked_never : (g : GuestState) (cpu : ℕ) (op : Op) (number off : ℕ) (writes : Bool) (page : ℕ) (owner : Option ℕ) (s : S) (d : D) (h : GuestState) (t : S) (e : D)
      → IsMapped g cpu op number off writes
      → Ends g (start_locked g cpu op page owner) s d h t e → ⊥
  locked_never g cpu op number off writes page (Some owner) s d h t e is (ea, es, ed) = not_waiting _ h page owner ea
  locked_never g cpu op number off writes page None s d h t e is run =
      resolve_in-never g page number off writes (process_of g.plan cpu) (find_slot g.parts.maps (process_of g.plan cpu) number) s d h t e (subst (λ p. Ends g p s d h t e) (is.uses page) run)

  free_never : (g : GuestState) (cpu : ℕ) (op : Op) (tag : Tag) (free : List ℕ) (s : S) (d : D) (h : GuestState) (t : S) (e : D) (entry : Entry) → Gets g h entry
      → Ends g (start_free g cpu op tag free) s d h t e → ⊥
  free_never g cpu op tag [] s d h t e entry gets run = room_turn-never g cpu op s d h t e entry gets run
  free_never g cpu op tag (page ∷ rest) s d h t e entry gets run = begin_turn-never g cpu tag page s d h t e run

  found_never : (g : GuestState) (cpu : ℕ) (op : Op) (number off : ℕ) (writes : Bool) (tag : Tag) (found : Option ℕ) (s : S) (d : D) (h : GuestState) (t : S) (e : D) (entry : Entry) → Gets g h entry
      → IsMapped g cpu op number off writes → Ends g (start_found g cpu op tag found) s d h t e → ⊥
  found_never g cpu op number off writes tag None s d h t e entry gets is run = free_never g cpu op tag g.parts.pages.free s d h t e entry gets run
  found_never g cpu op number off writes tag (Some page) s d h t e entry gets is run =
      locked_never g cpu op number off writes page (info_at g.parts.pages page).owner s d h t e is run

  at_never : (g : GuestState) (cpu : ℕ) (op : Op) (number off : ℕ) (writes : Bool) (tag : Option Tag) (s : S) (d : D) (h : GuestState) (t : S) (e : D) (entry : Entry) → Gets g h entry
      → IsMapped g cpu op number off writes → Ends g (start_at g cpu op tag) s d h t e → ⊥
  at_never g cpu op number off writes None s d h t e entry gets is (ea, es, ed) = not_idle _ h ea
  at_never g cpu op number off writes (Some tag) s d h t e entry gets is run = found_never g cpu op number off writes tag (page_of g.parts.cache tag) s d h t e entry gets is run

  -- the turn of a load or a store that is answered
  entry_located : (g : GuestState) (cpu : ℕ) (op : Op) (number off slot : ℕ) (writes : Bool) (pte : Option Pte) (s : S) (d : D) (h : GuestState) (t : S) (e : D) (entry : Entry) → Gets g h entry
      → IsMapped g cpu op number off writes → find_slot g.parts.maps (process_of g.plan cpu) number ≡ Some slot → entry_at g.parts.maps slot (off / PAGE) ≡ pte
      → Ends g (start_entry g cpu op writes slot (off / PAGE) pte) s d h t e → IsLocated h.parts (process_of g.plan cpu) number off writes (sv t)
  entry_located g cpu op number off slot writes None s d h t e entry gets is found there run =
      absurd (at_never g cpu op number off writes (tag_at g.parts.maps slot (off / PAGE)) s d h t e entry gets is run)
  entry_located g cpu op number off slot writes (Some pte) s d h t e entry gets is found there run = serves (writes && not pte.writable) run
    where
      serves : (fails : Bool) → Ends g (if fails then start_at g cpu op (tag_at g.parts.maps slot (off / PAGE)) else hit_turn g cpu op pte.page) s d h t e
          → IsLocated h.parts (process_of g.plan cpu) number off writes (sv t)
      serves true run = absurd (at_never g cpu op number off writes (tag_at g.parts.maps slot (off / PAGE)) s d h t e entry gets is run)
      serves false run =
          let x = is.hits pte.page s d h t e entry gets run in
          record {
            slot = slot;
            pte = pte;
            found = ap (λ (p : Parts). find_slot p.maps (process_of g.plan cpu) number) x.tables ∙ found;
            entry = ap (λ (p : Parts). entry_at p.maps slot (off / PAGE)) x.tables ∙ there;
            reached = x.reached;
          }

  mapped_located : (g : GuestState) (cpu : ℕ) (op : Op) (number off : ℕ) (writes : Bool) (slot : Option ℕ) (s : S) (d : D) (h : GuestState) (t : S) (e : D) (entry : Entry) → Gets g h entry
      → IsMapped g cpu op number off writes → find_slot g.parts.maps (process_of g.plan cpu) number ≡ slot
      → Ends g (start_mapped g cpu op writes off slot) s d h t e → IsLocated h.parts (process_of g.plan cpu) number off writes (sv t)
  mapped_located g cpu op number off writes None s d h t e entry gets is found (ea, es, ed) = absurd (not_idle _ h ea)
  mapped_located g cpu op number off writes (Some slot) s d h t e entry gets is found run =
      entry_located g cpu op number off slot writes (entry_at g.parts.maps slot (off / PAGE)) s d h t e entry gets is found refl run

  refused_located : (g : GuestState) (cpu : ℕ) (op : Op) (number off : ℕ) (writes : Bool) (refusal : Option FlatRefusal) (s : S) (d : D) (h : GuestState) (t : S) (e : D) (entry : Entry)
      → Gets g h entry
      → IsMapped g cpu op number off writes → Ends g (start_refused g cpu op refusal) s d h t e → IsLocated h.parts (process_of g.plan cpu) number off writes (sv t)
  refused_located g cpu op number off writes (Some refusal) s d h t e entry gets is (ea, es, ed) = absurd (not_entered g h g cpu op (Refused refusal) entry refl (λ bad. bad) gets ea)
  refused_located g cpu op number off writes None s d h t e entry gets is run =
      mapped_located g cpu op number off writes (find_slot g.parts.maps (process_of g.plan cpu) number) s d h t e entry gets is refl (subst (λ p. Ends g p s d h t e) is.accepted run)

  phase_located : (g : GuestState) (cpu : ℕ) (op : Op) (number off : ℕ) (writes : Bool) (phase : Phase) (s : S) (d : D) (h : GuestState) (t : S) (e : D) (entry : Entry) → Gets g h entry
      → IsMapped g cpu op number off writes → Ends g (turn_in g cpu op phase) s d h t e → IsLocated h.parts (process_of g.plan cpu) number off writes (sv t)
  unfolding start_turn
  phase_located g cpu op number off writes Start s d h t e entry gets is run =
      refused_located g cpu op number off writes (refusal_in g (process_of g.plan cpu) op) s d h t e entry gets is run
  phase_located g cpu op number off writes (Fill page) s d h t e entry gets is run = absurd (fill_turn-never g cpu op page s d h t e entry gets run)
  phase_located g cpu op number off writes (AtRoom page) s d h t e entry gets is run = absurd (page_out_turn-never g cpu op page s d h t e entry gets run)
  phase_located g cpu op number off writes (AtSync index) s d h t e entry gets is run =
      absurd (not_idle g h (let x = subst (λ p. Ends g p s d h t e) (is.syncs index) run in x.0))
  phase_located g cpu op number off writes (SyncWrite index page) s d h t e entry gets is run =
      absurd (not_idle g h (let x = subst (λ p. Ends g p s d h t e) (is.writes_back index page) run in x.0))
  phase_located g cpu op number off writes (Teardown slot index) s d h t e entry gets is run = absurd (teardown_turn-never g cpu slot index s d h t e entry gets run)

  -- the turn of a processor with this command that entered its answer
  pub turn_located : (g : GuestState) (cpu : ℕ) (op : Op) (number off : ℕ) (writes : Bool) (s : S) (d : D) (h : GuestState) (t : S) (e : D) (entry : Entry) → Gets g h entry
      → IsMapped g cpu op number off writes → command_of g.plan cpu (processor_at g cpu).place ≡ Some op → Ends g (turn g cpu) s d h t e
      → IsLocated h.parts (process_of g.plan cpu) number off writes (sv t)
  unfolding turn
  turn_located g cpu op number off writes s d h t e entry gets is command run =
      phase_located g cpu op number off writes (processor_at g cpu).phase s d h t e entry gets is (subst (λ c. Ends g (turn_on g cpu c) s d h t e) command run)
