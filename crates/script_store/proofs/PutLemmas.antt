-- A put of the store is the work of its command: refused early, refused since its page is full, written, or
-- failed.
use Rattle.std.proofs.Common.{ℕ, ◌≡◌, ◌≢◌, ◌≤◌, ◌+◌, arith, Bool, true, false, List, None, Result, Ok, Err, refl, ap, subst}
use Rattle.chip_trait.specs.Told.{Told, Counts}
use Rattle.ipl_base.specs.declared.fault.Refusal.TheVariants.{BadSession, BadName, TooLong, AlreadyOpen, NotOpen, Conflict, WritesFull, SharesFull, PendingFull, BadUnit, HoldsFull, NotHeld, PageFull, Twice, SessionsOpen}
use Rattle.ipl_base.specs.declared.fault.StoreFault.{StoreFault}
use Rattle.ipl_base.specs.declared.fault.StoreFault.TheVariants as store
use Rattle.ipl_model.specs.declared.command.Command.{Command}
use Rattle.ipl_model.specs.declared.command.Command.TheVariants as command
use Rattle.ipl_model.specs.declared.reply.Reply.{Reply}
use Rattle.ipl_model.specs.declared.reply.Reply.TheVariants as reply
use Rattle.page_frames.specs.Pages.{tables_in}
use Rattle.unit_io.specs.Steps.{Tidies}
use Rattle.store_trait.specs.declared.fault.Fault.{Fault}
use Rattle.store_trait.specs.declared.fault.Fault.TheVariants.{Spent}
use Rattle.store_trait.specs.Keeping.{WORK_DRAWS, Works, Learns, StillRecalls}
use Rattle.store_laws.specs.Keeps.{KnownPages, store_keeping}
use Rattle.store_laws.specs.Refusals.{sessions_refuse_put}
use Rattle.store_laws.proofs.PutLemmas.{full_puts_are_work, written_puts_are_work, failed_puts_leave_the_map}
use Rattle.ipl_store.specs.Calls.{view_of, counter_of, IsSound, entry_fault, Serves, Calls, limits_of_store}
use Rattle.ipl_store.specs.Puts.{put_fault, found_room, put_next, PutsBy}
use Rattle.script_store.specs.declared.store.ScriptStore.{ScriptStore}
use Rattle.script_store.specs.Keeps.{IsRunning, script_keeping, answer_of, reply_of, DoesCommand}
use Rattle.script_store.proofs.KeepLemmas.{tidy_so}
use Rattle.script_store.proofs.RecallLemmas.{calls_recall}
use Rattle.script_store.proofs.WornLemmas.{calls_learn}
use Rattle.ipl_model.specs.State.{Limits}
use Rattle.script_store.proofs.WorkLemmas.{done_does, served_does, few_drawn, by_entry, never_down, up_entry}

-- ---- the answer

-- the reply to a put whose page was looked at
abbrev pub put_reply : Bool → Reply
put_reply true = reply.Ok
put_reply false = reply.Refused PageFull

-- is that to what the store answered
pub replies_alike : (result : Result (Unit {0}) StoreFault)
    → answer_of put_reply (found_room result) ≡ reply_of result
replies_alike (Ok v) = refl
replies_alike (Err store.Down) = refl
replies_alike (Err store.Spent) = refl
replies_alike (Err (store.Chip e)) = refl
replies_alike (Err (store.Refused BadSession)) = refl
replies_alike (Err (store.Refused BadName)) = refl
replies_alike (Err (store.Refused TooLong)) = refl
replies_alike (Err (store.Refused AlreadyOpen)) = refl
replies_alike (Err (store.Refused NotOpen)) = refl
replies_alike (Err (store.Refused (Conflict s))) = refl
replies_alike (Err (store.Refused WritesFull)) = refl
replies_alike (Err (store.Refused SharesFull)) = refl
replies_alike (Err (store.Refused (PendingFull u))) = refl
replies_alike (Err (store.Refused BadUnit)) = refl
replies_alike (Err (store.Refused HoldsFull)) = refl
replies_alike (Err (store.Refused NotHeld)) = refl
replies_alike (Err (store.Refused PageFull)) = refl
replies_alike (Err (store.Refused (Twice s))) = refl
replies_alike (Err (store.Refused (SessionsOpen s))) = refl

-- ---- the work

module _ (known : KnownPages) (s n : ℕ) (bytes : List ℕ) (a b : ScriptStore) (before after : Told)
    (runs : IsRunning before.places a) where
  abbrev c : Command
  c = command.Put s n bytes

  abbrev By : Result Bool StoreFault → Type 0
  By found = PutsBy s n bytes a.store before found b.store after

  abbrev Served : Result Bool StoreFault → Type 0
  Served found = Serves (put_next s n bytes found) 14 a.store before found b.store after

  module _ (same : limits_of_store b.store ≡ limits_of_store a.store)
      (free : sessions_refuse_put (limits_of_store a.store) a.store.transactions.sessions s n bytes
      ≡ None) where
    -- its page was brought, and found full, or written
    put_work : (room : Bool) → By (Ok room)
        → counter_of b.store ≤ counter_of a.store + WORK_DRAWS
        → Works (store_keeping before.places known.pages) c (view_of a.store) before (Ok (put_reply room))
        (view_of b.store) after
    put_work true did few = written_puts_are_work known.pages s n bytes (view_of a.store) (view_of b.store)
        did.tables did.frames did.frame before did.mid after known.apart same runs.up
        did.brings.counts did.brings.keeps did.brings.there free did.room did.leads
        (λ pages h state keeps. few)
    put_work false did few = full_puts_are_work known.pages s n bytes (view_of a.store) (view_of b.store)
        did.frame before after known.apart (ap (λ (l : Limits). l.units) same) runs.up did.sessions did.brings.keeps
        did.brings.there free did.full (λ pages h state keeps. few)

    put_served : (found : Result Bool StoreFault) → Served found → By found
        → IsSound before.places b.store
        → Tidies (tables_in a.store.transactions.pages) found (tables_in b.store.transactions.pages)
        before after
        → Learns (script_keeping before.places known) a before (answer_of put_reply found) b after
        → StillRecalls (script_keeping before.places known) a before b after
        → Counts before after → DoesCommand known c a before (answer_of put_reply found) b after
    put_served (Ok room) did by sound tidy learns recalls counts =
        let next = put_next s n bytes (Ok room) in
        done_does known put_reply c next 14 a b before after runs (omega arith) same room did
        (put_work room by
        (few_drawn known put_reply c next 14 a b before after runs (omega arith) same did.drawn))
        (record { sound = sound; up = did.ends })
        (tidy_so known before.places a b before after (Ok room) (Ok (put_reply room)) refl tidy) learns
        recalls counts
    put_served (Err fault) did by sound tidy learns recalls counts =
        served_does known put_reply c (put_next s n bytes (Err fault)) 14 a b before after runs (omega arith)
        same (λ state sessions.
        failed_puts_leave_the_map (limits_of_store a.store) state s n bytes Spent)
        (Err fault) did tt sound tidy learns recalls counts

  -- ---- the call

  module _ (result : Result (Unit {0}) StoreFault)
      (calls : Calls (put_fault a.store s n bytes) (put_next s n bytes (found_room result)) 14 a.store
      before (found_room result) b.store after) where
    pub put_does : (put_fault a.store s n bytes ≡ None → By (found_room result))
        → DoesCommand known c a before (reply_of result) b after
    put_does by = subst (λ (r : Result Reply Fault). DoesCommand known c a before r b after) (replies_alike result)
        (by_entry known put_reply c
        (sessions_refuse_put (limits_of_store a.store) a.store.transactions.sessions s n bytes)
        (put_next s n bytes (found_room result)) 14 a b before after (found_room result) runs refl
        (entry_fault a.store) calls
        (λ none free same. put_served same free (found_room result) (calls.serves none) (by none)
        calls.sound calls.tidy (calls_learn known a b before after put_reply (found_room result) runs
        (put_fault a.store s n bytes) (put_next s n bytes (found_room result)) 14 calls)
        (calls_recall known a b before after (found_room result) (put_fault a.store s n bytes)
        (put_next s n bytes (found_room result)) 14 calls)
        calls.counts) (up_entry a runs.up))

    -- of a store that isn't down it doesn't say that it is
    pub put_is_up : result ≢ Err store.Down
    put_is_up is = never_down a
        (sessions_refuse_put (limits_of_store a.store) a.store.transactions.sessions s n bytes)
        (put_next s n bytes (found_room result)) 14 before (found_room result) b.store after runs.up
        calls (ap found_room is)
