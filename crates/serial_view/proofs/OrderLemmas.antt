-- The table holds the serial view of the commands so far, and the model what they leave.
use Rattle.std.proofs.Common.{◌≡◌, ◌⊎◌, inl, inr, ℕ, zero, suc, ◌+◌, ◌-◌, ◌<◌, ◌≤◌, Bool, true, false, cond, ◌&&◌, List, [], ◌∷◌, ◌++◌, length, map, replicate, Option, None, refl, sym, ◌∙◌, ap, subst, arith, add-one, get_or-set_other, get_or-set_same}
use Rattle.std.specs.Prelude.{filter, slice_index, slice_index_or, slice_set, if◌then◌else◌}
use Rattle.std.specs.List.{range_with_len, list_any, flat_map, Contains}
use Rattle.std.proofs.lemmas.Bool.{cases_eq, eq-eqb, ne_eqb, and_left}
use Rattle.std.proofs.lemmas.List.{length-set, get_or-replicate}
use Rattle.std.proofs.lemmas.List.FromFn.{get_or-map-range_with_len, map-range_with_len_more, length-map-range_with_len}
use Rattle.ipl_model.specs.State.{Map, State, Limits, at_rest}
use Rattle.ipl_model.specs.declared.command.Command.{Command}
use Rattle.ipl_model.specs.declared.command.Command.TheVariants as command
use Rattle.ipl_model.specs.Step.{step}
use Rattle.ipl_model.specs.Run.{after_all}
use Rattle.serial_view.specs.Serial.{accepts, command_at, met_at, is_accepted, session_of, is_begin, is_turn, turns, committed_at, serial}
use Rattle.serial_view.specs.Laws.{IsSerialView, picked, replies, reply_at, is_unlocked}
use Rattle.serial_view.specs.Turns.{KeptTurns, is_turn_of, turns_from, begun_after, order_after, after_refused, after_accepted, HasSlot, RunsCommand}
use Rattle.serial_view.proofs.SessionStepLemmas.{own, has_slot}
use Rattle.serial_view.proofs.TurnLemmas.{turn_is, turns_on, turns_same, serial_until, serial_more, serial_same, commits_turns, batch_turns}
use Rattle.ipl_model.specs.Laws.{is_commit}
use Rattle.ipl_model.proofs.RuleBatchLemmas.{first_in, later_in}
use Rattle.serial_view.proofs.MetLemmas.{met_more, passes}
use Rattle.serial_view.proofs.SerialLemmas.{leaves_the_same, replies_the_same}
use Rattle.serial_view.proofs.FilterLemmas.{filter_alike}
use Rattle.serial_view.proofs.BeganLemmas as began
use Rattle.serial_view.proofs.BeganLemmas.{goes_on, begins_here}

-- ---- kinds of commands

-- a command begins nothing
record BeginsNone (c : Command) : Type 0 where
  calm : is_begin c ≡ false
  same : (begun : List ℕ) (k : ℕ) → begun_after begun k c ≡ begun

-- a command commits nothing
record CommitsNone (c : Command) : Type 0 where
  calm : is_commit c ≡ false
  same : (order : List ℕ) (turns : List (Option ℕ)) (begun : List ℕ) (k : ℕ) → order_after order turns begun k c ≡ order

begin_case : (c : Command) → BeginsNone c ⊎ ((t : ℕ) × (c ≡ command.Begin t))
begin_case (command.Begin t) = inr (t, refl)
begin_case other = inl (record { calm = refl; same = λ begun k. refl })

commit_case : (c : Command) → CommitsNone c
    ⊎ (((s : ℕ) × (c ≡ command.Commit s)) ⊎ ((ss : List ℕ) × (c ≡ command.Batch ss)))
commit_case (command.Commit s) = inr (inl (s, refl))
commit_case (command.Batch ss) = inr (inr (ss, refl))
commit_case other = inl (record { calm = refl; same = λ order turns begun k. refl })

-- two functions that agree on a list give the same there
flat_alike : (f g : ℕ → List ℕ) (ss : List ℕ) → ((s : ℕ) → Contains ss s → f s ≡ g s) → flat_map f ss ≡ flat_map g ss
flat_alike f g [] same = refl
flat_alike f g (s ∷ ss) same =
    ap (λ (l : List ℕ). l ++ flat_map f ss) (same s (first_in s ss))
    ∙ ap (λ (l : List ℕ). g s ++ l) (flat_alike f g ss (λ t at. same t (later_in s ss t at)))

module _ (limits : Limits) (m : Map) (commands : List Command) where
  abbrev Since : ℕ → ℕ → ℕ → Type 0
  Since = began.Since limits m commands

  -- ---- the turns, as the table has them

  -- whose turn the command at a position is
  abbrev turn_at : ℕ → Option ℕ
  turn_at k = if is_accepted limits m commands k then session_of (command_at commands k) else None

  abbrev turns_until : ℕ → List (Option ℕ)
  turns_until k = map turn_at (range_with_len 0 k)

  turn_alike : (s j : ℕ) → is_turn_of s (turn_at j) ≡ is_turn limits m commands s j
  turn_alike s j = go (is_accepted limits m commands j)
    where
      go : (b : Bool) → is_turn_of s (cond b (session_of (command_at commands j)) None)
          ≡ (b && own s (command_at commands j))
      go true = refl
      go false = refl

  turns_more : (k : ℕ) → turns_until (suc k) ≡ turns_until k ++ turn_at k ∷ []
  turns_more k = ap turns_until (sym (add-one k)) ∙ map-range_with_len_more turn_at 0 k k (omega arith)

  noted_as : (k : ℕ) (turns : List (Option ℕ)) (b : Bool) → turns ≡ turns_until k → is_accepted limits m commands k ≡ b
      → turns ++ cond b (session_of (command_at commands k)) None ∷ [] ≡ turns_until (suc k)
  noted_as k turns b so_far e =
      ap (λ (l : List (Option ℕ)). l ++ cond b (session_of (command_at commands k)) None ∷ []) so_far
      ∙ ap (λ (a : Bool). turns_until k ++ cond a (session_of (command_at commands k)) None ∷ []) (sym e)
      ∙ sym (turns_more k)

  abbrev turn_in_table : ℕ → ℕ → ℕ → Bool
  turn_in_table s k j = is_turn_of s (slice_index_or (turns_until (suc k)) j None)

  -- what the code reads off its table is what the definition has
  read_off : (s k from : ℕ) → from ≤ suc k → turns_from (turns_until (suc k)) s from
      ≡ filter (is_turn limits m commands s) (range_with_len from (suc k - from))
  read_off s k from le =
      ap (λ (n : ℕ). filter (turn_in_table s k) (range_with_len from (n - from)))
      (length-map-range_with_len turn_at 0 (suc k))
      ∙ filter_alike (turn_in_table s k) (is_turn limits m commands s) from (suc k - from)
      (λ j above below.
      ap (is_turn_of s) (get_or-map-range_with_len turn_at 0 (suc k) j j None (omega arith) (omega arith))
      ∙ turn_alike s j)

  -- ---- the model and the table hold the commands before position k

  pub record Holds (k : ℕ) (state : State) (table : KeptTurns) : Type 0 where
    pub met : state ≡ met_at limits m commands k
    pub noted : table.turns ≡ turns_until k
    pub view : table.order ≡ serial_until limits m commands k
    pub slots : length table.begun ≡ 32
    pub since : (s : ℕ) → s < 32 → Since s k (slice_index table.begun s)

  pub holds_none : (state : State) (table : KeptTurns) → state ≡ at_rest m → table.turns ≡ []
      → table.order ≡ [] → table.begun ≡ replicate 32 0 → Holds zero state table
  holds_none state table a b c d = record {
    met = a;
    noted = b;
    view = c;
    slots = ap length d;
    since = λ s l.
        let first : slice_index table.begun s ≡ 0 =
        ap (λ (begun : List ℕ). slice_index begun s) d ∙ get_or-replicate 32 s 0 0 l in
        subst (λ (from : ℕ). Since s zero from) (sym first) (record { within = omega arith; turns_are = refl });
  }

  module _ (k : ℕ) (state next : State) (old new : KeptTurns) (whole : limits.sessions ≤ 32)
      (holds : Holds k state old) where
    abbrev c : Command
    c = command_at commands k

    abbrev Goes : Type 0
    Goes = next ≡ (step limits state c).0

    met_then : Goes → next ≡ met_at limits m commands (suc k)
    met_then goes =
        goes ∙ ap (λ (st : State). (step limits st c).0) holds.met ∙ sym (met_more limits m commands k)

    at_k : length old.turns ≡ k
    at_k = ap length holds.noted ∙ length-map-range_with_len turn_at 0 k

    refused_then : is_accepted limits m commands k ≡ false → Goes → new ≡ after_refused old → Holds (suc k) next new
    refused_then not_ok goes is = record {
      met = met_then goes;
      noted = ap (λ (t : KeptTurns). t.turns) is ∙ noted_as k old.turns false holds.noted not_ok;
      view = ap (λ (t : KeptTurns). t.order) is ∙ holds.view ∙ sym (serial_same limits m commands k (inl not_ok));
      slots = ap (λ (t : KeptTurns). length t.begun) is ∙ holds.slots;
      since = λ s l.
          subst (λ (t : KeptTurns). Since s (suc k) (slice_index t.begun s)) (sym is)
          (goes_on limits m commands s k (slice_index old.begun s) (inr (and_left _ _ not_ok)) (holds.since s l));
    }

    module _ (ok : is_accepted limits m commands k ≡ true) where
      begun_now : List ℕ
      begun_now = begun_after old.begun (length old.turns) c

      turns_now : List (Option ℕ)
      turns_now = old.turns ++ session_of c ∷ []

      noted_now : turns_now ≡ turns_until (suc k)
      unfolding turns_now
      noted_now = noted_as k old.turns true holds.noted ok

      slots_now : length begun_now ≡ 32
      unfolding begun_now
      slots_now = go (begin_case c)
        where
          go : BeginsNone c ⊎ ((t : ℕ) × (c ≡ command.Begin t))
              → length (begun_after old.begun (length old.turns) c) ≡ 32
          go (inl calm) = ap length (calm.same old.begun (length old.turns)) ∙ holds.slots
          go (inr begin) =
              ap (λ (d : Command). length (begun_after old.begun (length old.turns) d)) begin.1
              ∙ length-set old.begun begin.0 (length old.turns) ∙ holds.slots

      -- session t begins here, and any session s is where it began, here or before
      since_begin : (s t : ℕ) → s < 32 → c ≡ command.Begin t
          → Since s (suc k) (slice_index (slice_set old.begun t (length old.turns)) s)
      since_begin s t l is = go (cases_eq t s)
        where
          go : (t ≡ s) ⊎ (t ≡ s → ⊥) → Since s (suc k) (slice_index (slice_set old.begun t (length old.turns)) s)
          go (inl same) =
              let within : s < length old.begun = omega (arith, holds.slots) in
              let read : slice_index (slice_set old.begun t (length old.turns)) s ≡ k =
              ap (λ (t : ℕ). slice_index (slice_set old.begun t (length old.turns)) s) same
              ∙ get_or-set_same old.begun s (length old.turns) 0 within ∙ at_k in
              subst (λ (from : ℕ). Since s (suc k) from) (sym read)
              (begins_here limits m commands s k ok (is ∙ ap command.Begin same))
          go (inr other) =
              let read : slice_index (slice_set old.begun t (length old.turns)) s ≡ slice_index old.begun s =
              get_or-set_other old.begun t s (length old.turns) 0 (λ e. other (sym e)) in
              let no_turn = turn_is limits m commands s k false ok (ap (own s) is ∙ ne_eqb t s other) in
              subst (λ (from : ℕ). Since s (suc k) from) (sym read)
              (goes_on limits m commands s k (slice_index old.begun s) (inr no_turn) (holds.since s l))

      since_now : (s : ℕ) → s < 32 → Since s (suc k) (slice_index begun_now s)
      unfolding begun_now
      since_now s l = go (begin_case c)
        where
          go : BeginsNone c ⊎ ((t : ℕ) × (c ≡ command.Begin t))
              → Since s (suc k) (slice_index (begun_after old.begun (length old.turns) c) s)
          go (inl calm) =
              subst (λ (begun : List ℕ). Since s (suc k) (slice_index begun s))
              (sym (calm.same old.begun (length old.turns)))
              (goes_on limits m commands s k (slice_index old.begun s) (inl calm.calm) (holds.since s l))
          go (inr begin) =
              subst (λ (d : Command). Since s (suc k) (slice_index (begun_after old.begun (length old.turns) d) s))
              (sym begin.1) (since_begin s begin.0 l begin.1)

      -- a commit appends what the definition has of its session
      view_commit : (s : ℕ) → c ≡ command.Commit s
          → old.order ++ turns_from turns_now s (slice_index old.begun s) ≡ serial_until limits m commands (suc k)
      view_commit s is =
          let from = slice_index old.begun s in
          let slot : s < 32 = subst (λ (d : Command). HasSlot d) is
          (has_slot limits whole (met_at limits m commands k) c (passes limits m commands k ok)) in
          let calm : is_begin c ≡ false = ap is_begin is in
          let old_since = holds.since s slot in
          let new_since = goes_on limits m commands s k from (inl calm) old_since in
          let turn = turn_is limits m commands s k true ok (ap (own s) is ∙ eq-eqb s s refl) in
          ap (λ (l : List (Option ℕ)). old.order ++ turns_from l s from) noted_now
          ∙ ap (λ (l : List ℕ). old.order ++ l) (
          read_off s k from (omega (arith, old_since.within))
          ∙ sym new_since.turns_are ∙ turns_on limits m commands s k calm turn
          ∙ sym (commits_turns limits m commands k s ok is))
          ∙ ap (λ (l : List ℕ). l ++ committed_at limits m commands k) holds.view
          ∙ sym (serial_more limits m commands k)

      -- and a batch what it has of each of its sessions
      session_turns : (ss : List ℕ) → c ≡ command.Batch ss → (s : ℕ) → s < 32
          → turns_from turns_now s (slice_index old.begun s) ≡ turns limits m commands s k
      session_turns ss is s slot =
          let from = slice_index old.begun s in
          let calm : is_begin c ≡ false = ap is_begin is in
          let old_since = holds.since s slot in
          let new_since = goes_on limits m commands s k from (inl calm) old_since in
          let turn = turn_is limits m commands s k false ok (ap (own s) is) in
          ap (λ (l : List (Option ℕ)). turns_from l s from) noted_now
          ∙ read_off s k from (omega (arith, old_since.within))
          ∙ sym new_since.turns_are ∙ turns_same limits m commands s k turn

      view_batch : (ss : List ℕ) → c ≡ command.Batch ss
          → old.order ++ (flat_map (λ s. turns_from turns_now s (slice_index old.begun s)) ss ++ length old.turns ∷ [])
          ≡ serial_until limits m commands (suc k)
      view_batch ss is =
          let slots : HasSlot (command.Batch ss) = subst (λ (d : Command). HasSlot d) is
          (has_slot limits whole (met_at limits m commands k) c (passes limits m commands k ok)) in
          ap (λ (l : List ℕ). old.order ++ (l ++ length old.turns ∷ []))
          (flat_alike (λ s. turns_from turns_now s (slice_index old.begun s)) (λ s. turns limits m commands s k) ss
          (λ s at. session_turns ss is s (slots s at)))
          ∙ ap (λ (j : ℕ). old.order ++ (flat_map (λ s. turns limits m commands s k) ss ++ j ∷ [])) at_k
          ∙ ap (λ (l : List ℕ). old.order ++ l) (sym (batch_turns limits m commands k ss ok is))
          ∙ ap (λ (l : List ℕ). l ++ committed_at limits m commands k) holds.view
          ∙ sym (serial_more limits m commands k)

      view_now : order_after old.order turns_now old.begun (length old.turns) c ≡ serial_until limits m commands (suc k)
      view_now = go (commit_case c)
        where
          go : CommitsNone c ⊎ (((s : ℕ) × (c ≡ command.Commit s)) ⊎ ((ss : List ℕ) × (c ≡ command.Batch ss)))
              → order_after old.order turns_now old.begun (length old.turns) c ≡ serial_until limits m commands (suc k)
          go (inl calm) =
              calm.same old.order turns_now old.begun (length old.turns) ∙ holds.view
              ∙ sym (serial_same limits m commands k (inr calm.calm))
          go (inr (inl end)) =
              ap (order_after old.order turns_now old.begun (length old.turns)) end.1 ∙ view_commit end.0 end.1
          go (inr (inr end)) =
              ap (order_after old.order turns_now old.begun (length old.turns)) end.1 ∙ view_batch end.0 end.1

      accepted_then : Goes → new ≡ after_accepted old c → Holds (suc k) next new
      unfolding begun_now turns_now
      accepted_then goes is = record {
        met = met_then goes;
        noted = ap (λ (t : KeptTurns). t.turns) is ∙ noted_now;
        view = ap (λ (t : KeptTurns). t.order) is ∙ view_now;
        slots = ap (λ (t : KeptTurns). length t.begun) is ∙ slots_now;
        since = λ s l. subst (λ (t : KeptTurns). Since s (suc k) (slice_index t.begun s)) (sym is) (since_now s l);
      }

    pub holds_more : Goes → new ≡ cond (accepts limits state c) (after_accepted old c) (after_refused old)
        → Holds (suc k) next new
    holds_more goes is = go (is_accepted limits m commands k) refl
      where
        after : (b : Bool) → is_accepted limits m commands k ≡ b
            → new ≡ cond b (after_accepted old c) (after_refused old)
        after b e =
            is ∙ ap (λ (b : Bool). cond b (after_accepted old c) (after_refused old))
            (ap (λ (st : State). accepts limits st c) holds.met ∙ e)

        go : (b : Bool) → is_accepted limits m commands k ≡ b → Holds (suc k) next new
        go true ok = accepted_then ok goes (after true ok)
        go false not_ok = refused_then not_ok goes (after false not_ok)

  -- a command's run holds it too
  pub one_on : (k : ℕ) (c : Command) (state next : State) (table new : KeptTurns) → limits.sessions ≤ 32
      → c ≡ command_at commands k → Holds k state table → RunsCommand limits state table c next new
      → Holds (k + 1) next new
  one_on k c state next table new whole is holds runs =
      let goes : next ≡ (step limits state (command_at commands k)).0 =
      runs.steps ∙ ap (λ (d : Command). (step limits state d).0) is in
      let at = command_at commands k in
      let noted : new ≡ cond (accepts limits state at) (after_accepted table at) (after_refused table) =
      runs.table
      ∙ ap (λ (d : Command). cond (accepts limits state d) (after_accepted table d) (after_refused table)) is in
      subst (λ (n : ℕ). Holds n next new) (sym (add-one k)) (holds_more k state next table new whole holds goes noted)

  -- at the end the table has the view
  pub view_of : (k : ℕ) (state : State) (table : KeptTurns) (positions : List ℕ) → k ≡ length commands
      → Holds k state table → positions ≡ table.order → IsSerialView limits m commands positions
  view_of k state table positions end holds is =
      let order : positions ≡ serial limits m commands = is ∙ holds.view ∙ ap (serial_until limits m commands) end in
      record {
        order = order;
        leaves =
            ap (λ (l : List ℕ). after_all limits (at_rest m) (picked commands l)) order
            ∙ leaves_the_same limits m commands;
        says = λ locks.
            ap (λ (l : List ℕ). replies limits (at_rest m) (picked commands l)) order
            ∙ replies_the_same limits m commands (ap (list_any (is_unlocked limits m commands)) (sym order) ∙ locks)
            ∙ ap (map (reply_at limits m commands)) (sym order);
      }
