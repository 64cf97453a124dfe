-- A place that was erased or found worn, and what was tried after it.
use Rattle.std.proofs.Common.{◌≡◌, ◌≢◌, ◌<◌, ◌≤◌, ◌+◌, ◌||◌, ◌==◌, ℕ, suc, Bool, true, false, List, [], ◌∷◌, ◌++◌, length, append_assoc, Result, Ok, Err, OnOk, inl, inr, refl, sym, ◌∙◌, ap, subst, arith}
use Rattle.std.specs.Prelude.{◌⊎◌, slice_set, IfOk, MatchResult}
use Rattle.std.specs.Option.{option_map}
use Rattle.std.specs.List.{AllPairs, Contains}
use Rattle.std.proofs.lemmas.Bool.{eqb-true, eq-eqb, false≢true}
use Rattle.std.proofs.lemmas.List.{length-set, set-set, set-get_or}
use Rattle.chip_trait.specs.declared.event.Event.{Event}
use Rattle.chip_trait.specs.declared.event.Event.TheVariants.{Erase, Worn, Barrier}
use Rattle.chip_trait.specs.declared.wear.Wear.{Wear}
use Rattle.chip_trait.specs.declared.wear.Wear.TheVariants.{Done, Worn as IsWorn}
use Rattle.chip_trait.specs.Lawful.{Clean, age, IsLawful}
use Rattle.chip_trait.specs.Story.{Story, after}
use Rattle.chip_trait.specs.Told.{History, Told, Appends, Counts, adds_all}
use Rattle.chip_trait.proofs.CountsLemmas.{counts_then}
use Rattle.ipl_base.specs.declared.fault.ChipFault.{ChipFault}
use Rattle.ipl_base.specs.declared.fault.ChipFault.TheVariants.{WornOut}
use Rattle.ipl_base.specs.Places.{spares_on}
use Rattle.ipl_format.specs.Header.{IsLower}
use Rattle.ipl_meaning.specs.Legible.{Legible}
use Rattle.ipl_meaning.specs.Chart.{Chart}
use Rattle.ipl_meaning.specs.Layout.{Layout, Laid}
use Rattle.ipl_meaning.specs.Rests.{now, EachStands, StoryRests}
use Rattle.ipl_meaning.specs.Steps.{IsIdle}
use Rattle.ipl_meaning.specs.Tables.{Places, IsFree, with_use, with_erased, with_retired, Tables, IsCountedClean, overflow_places}
use Rattle.ipl_meaning.proofs.CarriedLemmas.{stays_untouched}
use Rattle.ipl_meaning.proofs.MirrorLemmas.{free_places_are_idle}
use Rattle.ipl_meaning.proofs.IdleFollowLemmas.{counted_apart, tables_follow_idle_places, places_may_be_taken, places_may_be_retired}
use Rattle.unit_directory.specs.Free.{IsNextFree, IsReadyToTake, spares_of, put_aside}
use Rattle.unit_directory.specs.Laws.{SetsAside}
use Rattle.unit_directory.proofs.RetiredLemmas.{inserted_has, inserted_keeps, inserted_from, length_inserted}
use Rattle.unit_directory.proofs.AsideLemmas.{free_but, free_still, ready_places_stay}
use Rattle.unit_io.specs.Accounts.{Accounts}
use Rattle.unit_io.specs.Charts.{Begun, IsCleared}
use Rattle.unit_io.specs.Costs.{OutsideAre, Spends, barriers, erases, is_erased, is_tried, programs_outside}
use Rattle.unit_io.specs.Leads.{Erases, IsSteady, IsStopped, Leads, RestsWith}
use Rattle.unit_io.specs.Spots.{Clears}
use Rattle.unit_io.specs.Unread.{ReadsNothing}
use Rattle.unit_io.proofs.CostLemmas.{barriers_joined, erased_joined, erases_joined, kinds_joined, one_added, outside_joined, spends_did, spends_then}
use Rattle.unit_io.proofs.PlaceLemmas.{begin_tells, begin_worn, begun_done, begun_failed, begun_halted}
use Rattle.unit_io.proofs.SparesLemmas.{spares_erased, spares_then, spares_waited}
use Rattle.unit_io.proofs.SpotLemmas.{clears_all, clears_erase, clears_none, clears_worn, silent_both}
use Rattle.unit_io.proofs.UnreadLemmas.{unread_then}
use Rattle.unit_io.specs.Steps.{Settled, EndsWith, Outcome, RestsAgreeing}
use Rattle.unit_io.proofs.StepLemmas.{failures_settle, outcome_then, outcome_weaker}
use Rattle.place_taking.specs.Counts.{Counted, TakesNext}
use Rattle.place_taking.specs.Spending.{ErasesFree, FindsOneMore, IsFreshFrom, RetiresWorn, SparesClean, SparesUsed, is_found_worn, tells_worn}
use Rattle.place_taking.specs.Takes.{ClearsNext, ErasesNext, IsAsideFrom, IsNotTaken, IsTakenFrom, RestsTaken, TakesFree, TakesPlace, TellsTaking, with_places}
use Rattle.place_taking.specs.Turns.{FindsNextWorn}
use Rattle.place_taking.proofs.CountedLemmas.{counted_then, keeps_counts}
use Rattle.place_taking.proofs.SpendingLemmas.{all_apart, found_later, found_earlier, found_either, or_either, or_left, retires_none, tried_either}

-- ---- the directory

-- a place that was free, taken and given back
pub given_back : (d : Places) (p : ℕ) → IsFree d p → with_use (with_use d p true) p false ≡ d
given_back d p free =
    let once : slice_set d.in_use p false ≡ d.in_use =
    ap (λ b. slice_set d.in_use p b) (sym free) ∙ set-get_or d.in_use p true in
    ap (λ l. record d { in_use = l }) (set-set d.in_use p true false ∙ once)

-- ---- a free place

module _ (places : ℕ) (m : Legible) (it : Layout) (h : History) (t : Tables) (p : ℕ)
    (here : RestsAgreeing places m it t h) (free : IsFree t.places p) where
  pub idle : IsIdle places (now h) it p
  idle = free_places_are_idle places (now h) it t p here.agrees.mirrors free

  no_overflow : ¬ Contains (overflow_places t) p
  no_overflow = here.agrees.mirrors.directory.not_overflow p free

  -- none of its sectors is counted as clean
  pub counted_elsewhere : (q s : ℕ) → IsCountedClean t q s → q ≢ p
  counted_elsewhere q s counted =
      counted_apart places (now h) it t p here.agrees.mirrors idle no_overflow q s counted

  -- the tables agree once it was cleared, with the place in use
  rests_taken : (a : Story) → p < places → Clears p true a → StoryRests places m (adds_all a h)
      → IsCleared p (now h) (now (adds_all a h))
      → RestsTaken places m it t (with_erased (with_use t.places p true) p) (now h) p (adds_all a h)
  rests_taken a within clears rests cleared = record {
    stands = record {
      rests = rests;
      agrees = record {
        mirrors = places_may_be_taken places (now (adds_all a h)) it t p
            (tables_follow_idle_places places (now h) it t p (now (adds_all a h)) t.next
            here.agrees.mirrors idle no_overflow cleared.others (cleared.bare 0) (omega arith)) within;
        tidy = λ q s counted. stays_untouched h a q s
            (λ base clean. clears.others base q s (counted_elsewhere q s counted) clean)
            (here.agrees.tidy q s counted);
      };
    };
    cleared = cleared;
  }

  -- where nothing has changed, with the place retired
  rests_aside : (a : Story) → p < places → Clears p false a → StoryRests places m (adds_all a h)
      → now (adds_all a h) ≡ now h
      → RestsAgreeing places m it (with_places t (put_aside t.places p)) (adds_all a h)
  rests_aside a within clears rests same = record {
    rests = rests;
    agrees = record {
      mirrors = rw same (places_may_be_retired places (now h) it t p here.agrees.mirrors within);
      tidy = λ q s counted. stays_untouched h a q s
          (λ base clean. clears.others base q s (counted_elsewhere q s counted) clean)
          (here.agrees.tidy q s counted);
    };
  }

  -- or as they are
  rests_untaken : (a : Story) → Clears p false a → StoryRests places m (adds_all a h)
      → now (adds_all a h) ≡ now h → RestsAgreeing places m it t (adds_all a h)
  rests_untaken a clears rests same = record {
    rests = rests;
    agrees = record {
      mirrors = rw same here.agrees.mirrors;
      tidy = λ q s counted. stays_untouched h a q s
          (λ base clean. clears.others base q s (counted_elsewhere q s counted) clean)
          (here.agrees.tidy q s counted);
    };
  }

-- ---- events

-- one event, or two, and nothing else
one_spent : (P : Story → Type 0) (e : Event) (old new : Told) → P (e ∷ []) → Appends e old new
    → Spends P old new
one_spent P e old new does did =
    record { added = e ∷ []; does = does; history = did.history ∙ one_added e old.history }

two_spent : (P : Story → Type 0) (e f : Event) (old mid new : Told) → P (f ∷ e ∷ [])
    → Appends e old mid → Appends f mid new → Spends P old new
two_spent P e f old mid new does first second =
    spends_then (λ a. a ≡ e ∷ []) (λ a. a ≡ f ∷ []) P old mid new
    (λ later earlier one two. rw (one, two) does)
    (one_spent (λ a. a ≡ e ∷ []) e old mid refl first)
    (one_spent (λ a. a ≡ f ∷ []) f mid new refl second)

-- an erase that broke, or the barrier behind it
broken_spent : (P : Story → Type 0) (p : ℕ) (e : ChipFault) (old new : Told) → P [] → P (Erase p ∷ [])
    → Erases p old (Err e) new → Spends P old new
broken_spent P p e old new none one (inl broke) =
    spends_did P (Erase p) old new (Err e) one none broke
broken_spent P p e old new none one (inr (mid, did, halted)) =
    let first = one_spent P (Erase p) old mid one did in
    record { added = first.added; does = first.does; history = halted.history ∙ first.history }

-- of one place that is tried
same_place : (p q : ℕ) → ((p == q) || false) ≡ true → p ≡ q
same_place p q is = elim (or_either (p == q) false is) [
  | inl same ↦ eqb-true p q same
  | inr never ↦ absurd (false≢true never)
]

same_found : (p : ℕ) → is_found_worn (Worn p ∷ []) p ≡ true
same_found p = or_left (p == p) false (eq-eqb p p refl)

module _ (d : Places) (p : ℕ) (next : IsNextFree d p) where
  clears_spare : (done : Bool) (a : Story) → Clears p done a → SparesClean d a
  clears_spare done a did = record {
    silent = did.silent;
    lawful = did.lawful;
    others = λ base q s used clean.
        did.others base q s (λ same. used (subst (IsFree d) (sym same) next.free)) clean;
  }

  -- its one erase, or none
  tried_once : (then : Places) (worn_out : Bool) (added : Story) → then.retired ≡ d.retired
      → erases added ≤ 1 → programs_outside added ≤ 0 → barriers added ≤ 1 → OutsideAre [] added
      → ((q : ℕ) → is_tried added q ≡ true → p ≡ q) → RetiresWorn d then worn_out added
      → Counted added d then → ErasesFree d then 1 worn_out added
  tried_once then worn_out added same few none barred only here retires counted = record {
    costs = record {
      erased = omega (arith, few, ap (λ (l : List ℕ). length l) same);
      programmed = none;
      barred = barred;
      only = only;
    };
    tries = record {
      worn = [];
      in_turn = tt;
      retired = same;
      tried = λ q is. inr (subst (IsNextFree d) (here q is) next);
    };
    retires = retires;
    counted = counted;
  }

  -- ---- it was erased

  module _ (then : Places) (old new : Told) (within : p < old.places)
      (is : then ≡ with_erased (with_use d p true) p) (did : Erases p old (Ok Done) new)
      (counts : Counts old new) where
    mid : Told
    mid = did.0

    erased : Appends (Erase p) old did.0
    erased = did.1

    erased_counts : TakesNext d p (with_erased d p).erases then
    erased_counts = record {
      next = next;
      counts_are = ap (λ (e : Places). e.erases) is;
      others = λ q apart free. subst (λ (e : Places). IsFree e q) (sym is) (free_still d p q apart free);
    }

    erased_costs : ErasesNext d (Ok p) then (Barrier ∷ Erase p ∷ [])
    erased_costs = record {
      erases = tried_once then false (Barrier ∷ Erase p ∷ []) (ap (λ (e : Places). e.retired) is)
          (omega arith) (omega arith) (omega arith) tt (same_place p)
          (retires_none d then false (Barrier ∷ Erase p ∷ []) (ap (λ (e : Places). e.retired) is) refl
          (λ q found. false≢true found))
          (d, keeps_counts d d refl, inl erased_counts);
      erased = or_left (p == p) false (eq-eqb p p refl);
    }

    erased_clears : ClearsNext d (Ok p) (Barrier ∷ Erase p ∷ [])
    erased_clears = record {
      spares = clears_spare true (Barrier ∷ Erase p ∷ []) (clears_all p);
      fresh = λ base s low. (clears_all p).fresh refl base s;
    }

    erased_rests : TakesPlace d old (Ok p) then new
    erased_rests m it t h steady same here =
        let free : IsFree t.places p = subst (λ (e : Places). IsFree e p) (sym same) next.free in
        let leads = begun_done old m it h p here.rests here.agrees.mirrors.laid within
        (idle old.places m it h t p here free) did.0 new steady did.1 did.2 in
        record {
          added = leads.added;
          places = leads.places;
          history = leads.history;
          each_moment = leads.each_moment;
          marks = leads.marks;
          does = record {
            spares = clears_spare true leads.added leads.does;
            fresh = λ base s low. leads.does.fresh refl base s;
          };
          steady = λ _. leads.ends.0;
          ends = λ _. subst (λ (e : Places).
              RestsTaken old.places m it t e (now h) p (adds_all leads.added h))
              (ap (λ (e : Places). with_erased (with_use e p true) p) same ∙ sym is)
              (rests_taken old.places m it h t p here free leads.added within leads.does
              leads.ends.1.0 leads.ends.1.1);
        }

    pub place_erased : TakesFree d old (Ok p) then new
    place_erased = record {
      directory = record { worn = []; in_turn = tt; next = next; places_is = is };
      takes = erased_rests;
      tells = begin_tells p old did.0 new (Ok tt) did.1 did.2;
      spares = λ x told.
          let (y, told_y, same) = spares_then p old did.0 new (spares_erased p old did.0 (Ok tt) did.1)
          (spares_waited p did.0 new (Ok tt) did.2) x told in
          (y, told_y, λ q s used. same q s (λ at. used (subst (IsFree d) (sym at) next.free)));
      costs = two_spent (ErasesNext d (Ok p) then) (Erase p) Barrier old did.0 new erased_costs did.1
          did.2;
      tidy = two_spent (ClearsNext d (Ok p)) (Erase p) Barrier old did.0 new erased_clears did.1 did.2;
      unread = two_spent ReadsNothing (Erase p) Barrier old did.0 new (λ q s. refl) did.1 did.2;
      accounts = record { counts = counts; cause = tt };
    }

  -- ---- a write failed

  module _ (e : ChipFault) (then : Places) (old new : Told) (within : p < old.places) (is : then ≡ d)
      (did : Erases p old (Err e) new) (stopped : IsStopped e old new) (counts : Counts old new) where
    broken_costs : (added : Story) → erases added ≤ 1 → programs_outside added ≤ 0
        → barriers added ≤ 1 → OutsideAre [] added → ((q : ℕ) → is_tried added q ≡ true → p ≡ q)
        → ((q : ℕ) → is_found_worn added q ≡ true → ⊥) → Counted added d then
        → ErasesNext d (Err e) then added
    broken_costs added few none barred only here found counted = record {
      erases = tried_once then (tells_worn e) added (ap (λ (b : Places). b.retired) is) few none barred
          only here (retires_none d then (tells_worn e) added (ap (λ (b : Places). b.retired) is)
          (ap tells_worn stopped.0) found) counted;
      erased = tt;
    }

    broken_leads : (m : Legible) (it : Layout) (h : History) → IsSteady h old → StoryRests old.places m h
        → Laid old.places (now h) it → IsIdle old.places (now h) it p
        → Leads {T = Wear} {E = ChipFault} (EachStands old.places m) (λ ok. Clears p false)
        (RestsWith old.places m (Begun p) h) h old (Err e) new
    broken_leads m it h steady rests laid idle_there = by_case did
      where
        by_case : Erases p old (Err e) new
            → Leads {T = Wear} {E = ChipFault} (EachStands old.places m) (λ ok. Clears p false)
            (RestsWith old.places m (Begun p) h) h old (Err e) new
        by_case (inl broke) =
            begun_failed old m it h p rests laid within idle_there new e steady broke
        by_case (inr (between, first, halted)) =
            begun_halted old m it h p rests laid within idle_there between new e steady first halted

    broken_rests : TakesPlace d old (Err e) then new
    broken_rests m it t h steady same here =
        let free : IsFree t.places p = subst (λ (b : Places). IsFree b p) (sym same) next.free in
        let leads = broken_leads m it h steady here.rests here.agrees.mirrors.laid
        (idle old.places m it h t p here free) in
        record {
          added = leads.added;
          places = leads.places;
          history = leads.history;
          each_moment = leads.each_moment;
          marks = leads.marks;
          does = record { spares = clears_spare false leads.added leads.does; fresh = tt };
          steady = λ unrisen. absurd (omega (arith, stopped.1, unrisen));
          ends = λ unrisen. absurd (omega (arith, stopped.1, unrisen));
        }

    pub place_stopped : TakesFree d old (Err e) then new
    place_stopped = record {
      directory = record { worn = []; in_turn = tt; places_is = is };
      takes = broken_rests;
      tells = λ other. absurd (other stopped.0);
      spares = tt;
      costs = broken_spent (ErasesNext d (Err e) then) p e old new
          (broken_costs [] (omega arith) (omega arith) (omega arith) tt (λ q never. absurd (false≢true never))
          (λ q never. false≢true never) (keeps_counts d then is))
          (broken_costs (Erase p ∷ []) (omega arith) (omega arith) (omega arith) tt (same_place p)
          (λ q never. false≢true never)
          (d, keeps_counts d d refl, inr (next, keeps_counts d then is))) did;
      tidy = broken_spent (ClearsNext d (Err e)) p e old new
          (record { spares = clears_spare false [] (clears_none p); fresh = tt })
          (record { spares = clears_spare false (Erase p ∷ []) (clears_erase p); fresh = tt }) did;
      unread = broken_spent ReadsNothing p e old new (λ q s. refl) (λ q s. refl) did;
      accounts = record { counts = counts; cause = inl stopped };
    }

-- ---- a place that is worn

module _ (d between : Places) (p : ℕ) (old mid : Told) (within : p < old.places)
    (finds : FindsNextWorn d old p between mid) (ready : IsReadyToTake d) where
  worn_leads : (m : Legible) (it : Layout) (t : Tables) (h : History) → IsSteady h old
      → (same : t.places ≡ d) → RestsAgreeing old.places m it t h
      → Leads {T = Wear} {E = ChipFault} (EachStands old.places m) (λ ok. Clears p false)
      (RestsWith old.places m (Begun p) h) h old (Ok IsWorn) mid
  worn_leads m it t h steady same here =
      begin_worn old m it h p here.rests here.agrees.mirrors.laid within
      (idle old.places m it h t p here
      (subst (λ (e : Places). IsFree e p) (sym same) finds.next.free)) mid steady finds.worn

  -- ---- and no other may be taken

  module _ (e : ChipFault) (then : Places) (back : then ≡ with_use between p false)
      (full : length d.retired ≡ spares_of d) (rising : AllPairs IsLower d.retired)
      (tells : e ≡ WornOut (1 + spares_of then)) where
    as_before : then ≡ d
    as_before = back ∙ ap (λ (b : Places). with_use b p false) finds.places_is
        ∙ given_back d p finds.next.free

    one_more : FindsOneMore d (Worn p ∷ [])
    one_more = record {
      last = p;
      found = same_found p;
      apart = all_apart p d.retired (λ has. ready.apart p has finds.next.free) rising;
      full = full;
    }

    last_costs : ErasesNext d (Err e) d (Worn p ∷ [])
    last_costs = record {
      erases = tried_once d p finds.next d (tells_worn e) (Worn p ∷ []) refl (omega arith) (omega arith)
          (omega arith) tt (same_place p) (record {
            keeps = λ q has. has;
            each = λ q has. inl has;
            found = λ still. absurd (false≢true (sym still ∙ ap tells_worn tells));
            one_more = λ _. one_more;
          }) (
            d,
            keeps_counts d d refl,
            record {
              next = finds.next;
              counts_are = refl;
              others = λ q apart free. free;
            },
          );
      erased = tt;
    }

    last_rests : TakesPlace d old (Err e) d mid
    last_rests m it t h steady same here =
        let free : IsFree t.places p =
        subst (λ (b : Places). IsFree b p) (sym same) finds.next.free in
        let leads = worn_leads m it t h steady same here in
        record {
          added = leads.added;
          places = leads.places;
          history = leads.history;
          each_moment = leads.each_moment;
          marks = leads.marks;
          does = record { spares = clears_spare d p finds.next false leads.added leads.does; fresh = tt };
          steady = λ _. leads.ends.0;
          ends = λ _. subst (λ (b : Places).
              RestsAgreeing old.places m it (with_places t b) (adds_all leads.added h)) same
              (rests_untaken old.places m it h t p here free leads.added leads.does leads.ends.1.0
              leads.ends.1.1);
        }

    pub place_last : TakesFree d old (Err e) then mid
    place_last = subst (λ (b : Places). TakesFree d old (Err e) b mid) (sym as_before) (record {
      directory = record { worn = []; in_turn = tt; places_is = refl };
      takes = last_rests;
      tells = λ other x told. (x, finds.worn.contents ∙ ap (option_map (after (Worn p))) told, refl);
      spares = tt;
      costs = one_spent (ErasesNext d (Err e) d) (Worn p) old mid last_costs finds.worn;
      tidy = one_spent (ClearsNext d (Err e)) (Worn p) old mid (record {
        spares = clears_spare d p finds.next false (Worn p ∷ []) (clears_worn p);
        fresh = tt;
      }) finds.worn;
      unread = one_spent ReadsNothing (Worn p) old mid (λ q s. refl) finds.worn;
      accounts = record {
        counts = finds.counts;
        cause = inr (tells ∙ ap (λ (b : Places). WornOut (1 + spares_of b)) as_before, full, finds.rose);
      };
    })

  -- ---- and others are tried after it

  module _ (r : Result ℕ ChipFault) (then : Places) (new : Told)
      (rest : TakesFree (put_aside d p) mid r then new) where
    -- the directory
    worn_directory : MatchResult r (λ place. IsTakenFrom d place then) (λ fault. IsAsideFrom d then)
    worn_directory = by_case r rest.directory
      where
        by_case : (r : Result ℕ ChipFault)
            → MatchResult r (λ place. IsTakenFrom (put_aside d p) place then)
            (λ fault. IsAsideFrom (put_aside d p) then)
            → MatchResult r (λ place. IsTakenFrom d place then) (λ fault. IsAsideFrom d then)
        by_case (Ok place) taken = record {
          worn = p ∷ taken.worn;
          in_turn = (finds.next, taken.in_turn);
          next = taken.next;
          places_is = taken.places_is;
        }
        by_case (Err fault) aside = record {
          worn = p ∷ aside.worn;
          in_turn = (finds.next, aside.in_turn);
          places_is = aside.places_is;
        }

    -- what it costs
    either_found : (later : Story) (q : ℕ) → is_found_worn (later ++ Worn p ∷ []) q ≡ true
        → (is_found_worn later q ≡ true) ⊎ (p ≡ q)
    either_found later q is = elim (found_either later (Worn p ∷ []) q is) [
      | inl now ↦ inl now
      | inr here ↦ inr (same_place p q here)
    ]

    worn_retires : (worn_out : Bool) (later : Story) → RetiresWorn (put_aside d p) then worn_out later
        → RetiresWorn d then worn_out (later ++ Worn p ∷ [])
    worn_retires worn_out later retires = record {
      keeps = λ q has. retires.keeps q (inserted_keeps p d.retired q has);
      each = λ q has. elim (retires.each q has) [
        | inl before ↦ elim (inserted_from p d.retired q before) [
          | inl this ↦ inr (found_earlier later (Worn p ∷ []) q
              (subst (λ (k : ℕ). is_found_worn (Worn p ∷ []) k ≡ true) this (same_found p)))
          | inr at_first ↦ inl at_first
        ]
        | inr is ↦ inr (found_later later (Worn p ∷ []) q is)
      ];
      found = λ still q is. elim (either_found later q is) [
        | inl now ↦ retires.found still q now
        | inr this ↦ subst (Contains then.retired) this
            (retires.keeps p (inserted_has p d.retired))
      ];
      one_more = λ is.
          let more = retires.one_more is in record {
            last = more.last;
            found = found_later later (Worn p ∷ []) more.last more.found;
            apart = more.apart;
            full = more.full;
          };
    }

    worn_counted : Counted (Worn p ∷ []) d (put_aside d p)
    worn_counted = (
      d,
      keeps_counts d d refl,
      record {
        next = finds.next;
        counts_are = refl;
        others = λ q apart free. free_still d p q apart free;
      },
    )

    worn_free : (worn_out : Bool) (later : Story)
        → ErasesFree (put_aside d p) then 1 worn_out later
        → ErasesFree d then 1 worn_out (later ++ Worn p ∷ [])
    worn_free worn_out later does =
        let longer = length_inserted p d.retired (λ has. ready.apart p has finds.next.free) in
        let tried : erases (later ++ Worn p ∷ []) ≡ erases later + 1 = erases_joined later (Worn p ∷ []) in
        let outside : programs_outside (later ++ Worn p ∷ []) ≤ programs_outside later + 0 =
        outside_joined later (Worn p ∷ []) in
        let barred : barriers (later ++ Worn p ∷ []) ≡ barriers later + 0 =
        barriers_joined later (Worn p ∷ []) in record {
          costs = record {
            erased = omega (arith, tried, longer, does.costs.erased);
            programmed = omega (arith, outside, does.costs.programmed);
            barred = omega (arith, barred, does.costs.barred);
            only = kinds_joined [] later (Worn p ∷ []) does.costs.only tt;
          };
          tries = record {
            worn = p ∷ does.tries.worn;
            in_turn = (finds.next, does.tries.in_turn);
            retired = does.tries.retired;
            tried = λ q is. elim (tried_either later (Worn p ∷ []) q is) [
              | inl now ↦ elim (does.tries.tried q now) [
                | inl (i, low, at) ↦ inl (suc i, omega (arith, low), at)
                | inr last ↦ inr last
              ]
              | inr here ↦ inl (subst (Contains (p ∷ does.tries.worn)) (same_place p q here)
                  (0, omega arith, refl))
            ];
          };
          retires = worn_retires worn_out later does.retires;
          counted = counted_then later (Worn p ∷ []) d (put_aside d p) then worn_counted does.counted;
        }

    worn_erases : (r : Result ℕ ChipFault) (later : Story) → ErasesNext (put_aside d p) r then later
        → ErasesNext d r then (later ++ Worn p ∷ [])
    worn_erases (Ok place) later does = record {
      erases = worn_free false later does.erases;
      erased = erased_joined later (Worn p ∷ []) place
          ∙ or_left (is_erased later place) false does.erased;
    }
    worn_erases (Err fault) later does = record {
      erases = worn_free (tells_worn fault) later does.erases;
      erased = tt;
    }

    -- which sectors
    worn_clears : (r : Result ℕ ChipFault) (later earlier : Story) → Clears p false earlier
        → ClearsNext (put_aside d p) r later → ClearsNext d r (later ++ earlier)
    worn_clears r later earlier first second = record {
      spares = record {
        silent = silent_both later earlier second.spares.silent first.silent;
        lawful = λ base lawful. subst IsLawful (sym (append_assoc later earlier base))
            (second.spares.lawful (earlier ++ base) (first.lawful base lawful));
        others = λ base q s used clean.
            subst (λ (story : Story). age story q s ≡ Clean) (sym (append_assoc later earlier base))
            (second.spares.others (earlier ++ base) q s (λ is. used (free_but d p q is).1)
            (first.others base q s
            (λ same. used (subst (IsFree d) (sym same) finds.next.free)) clean));
      };
      fresh = fresh_then r second.fresh;
    }
      where
        fresh_then : (r : Result ℕ ChipFault) → IfOk r (λ place. IsFreshFrom place 0 later)
            → IfOk r (λ place. IsFreshFrom place 0 (later ++ earlier))
        fresh_then (Ok place) fresh = λ base s low.
            subst (λ (story : Story). age story place s ≡ Clean) (sym (append_assoc later earlier base))
            (fresh (earlier ++ base) s low)
        fresh_then (Err fault) fresh = tt

    -- what a power cut leaves
    worn_rests : TakesPlace d old r then new
    worn_rests m it t h steady same here =
        let free : IsFree t.places p =
        subst (λ (b : Places). IsFree b p) (sym same) finds.next.free in
        let leads = worn_leads m it t h steady same here in
        let k = adds_all leads.added h in
        let t_then = with_places t (put_aside t.places p) in
        let agree = rests_aside old.places m it h t p here free leads.added within leads.does
        leads.ends.1.0 leads.ends.1.1 in
        let first : Outcome (EachStands old.places m) (Clears p false) (Unit {0})
        (λ j. RestsAgreeing old.places m it t_then j) h old mid = record {
          added = leads.added;
          places = leads.places;
          history = leads.history;
          each_moment = leads.each_moment;
          marks = leads.marks;
          does = leads.does;
          steady = λ _. leads.ends.0;
          ends = λ _. agree;
        } in
        let second = subst (λ (n : ℕ). (u : Tables) (j : History) → IsSteady j mid
        → u.places ≡ put_aside d p → RestsAgreeing n m it u j
        → Outcome (EachStands n m) (ClearsNext (put_aside d p) r) (Settled r mid new)
        (EndsWith r (RestsTaken n m it u then (now j)) (RestsAgreeing n m it (with_places u then))) j mid
        new) finds.counts.places (λ u j. rest.takes m it u j) t_then k leads.ends.0
        (ap (λ (b : Places). put_aside b p) same) agree in
        let both = outcome_then (EachStands old.places m) (Clears p false)
        (ClearsNext (put_aside d p) r) (ClearsNext d r) (Unit {0}) (Settled r mid new)
        (λ j. RestsAgreeing old.places m it t_then j)
        (EndsWith r (RestsTaken old.places m it t_then then (now k))
        (RestsAgreeing old.places m it (with_places t_then then))) h old mid new first tt second
        (λ earlier later one two. worn_clears r later earlier one two) in
        outcome_weaker (EachStands old.places m) (EachStands old.places m) (ClearsNext d r)
        (ClearsNext d r) (Settled r mid new) (Settled r old new)
        (EndsWith r (RestsTaken old.places m it t_then then (now k))
        (RestsAgreeing old.places m it (with_places t_then then)))
        (EndsWith r (RestsTaken old.places m it t then (now h))
        (RestsAgreeing old.places m it (with_places t then))) h old new (λ j is. is) (λ a does. does)
        (settles r) (λ _ j ends. as_at_first r (now k) leads.ends.1.1 j ends) both
      where
        settles : (r : Result ℕ ChipFault) → Settled r old new → Settled r mid new
        settles (Ok place) settled = tt
        settles (Err fault) unrisen =
            failures_settle (Unit {0}) (Unit {0}) ChipFault ChipFault fault fault old mid new
            finds.counts unrisen

        as_at_first : (r : Result ℕ ChipFault) (c : Chart) → c ≡ now h → (j : History)
            → EndsWith r (RestsTaken old.places m it (with_places t (put_aside t.places p)) then c)
            (RestsAgreeing old.places m it
            (with_places (with_places t (put_aside t.places p)) then)) j
            → EndsWith r (RestsTaken old.places m it t then (now h))
            (RestsAgreeing old.places m it (with_places t then)) j
        as_at_first (Ok place) c still j ends = record {
          stands = ends.stands;
          cleared = subst (λ (e : Chart). IsCleared place e (now j)) still ends.cleared;
        }
        as_at_first (Err fault) c still j ends = ends

    -- what is told
    worn_tells : (r : Result ℕ ChipFault) → TellsTaking mid r new → TellsTaking old r new
    worn_tells (Ok place) tells = λ x told.
        tells x (finds.worn.contents ∙ ap (option_map (after (Worn p))) told)
    worn_tells (Err fault) tells = λ other x told.
        tells other x (finds.worn.contents ∙ ap (option_map (after (Worn p))) told)

    worn_spares : (r : Result ℕ ChipFault) → OnOk r (SparesUsed (put_aside d p) mid new)
        → OnOk r (SparesUsed d old new)
    worn_spares (Ok place) spares = λ x told.
        let (y, told_y, same) =
        spares x (finds.worn.contents ∙ ap (option_map (after (Worn p))) told) in
        (y, told_y, λ q s used. same q s (λ is. used (free_but d p q is).1))
    worn_spares (Err fault) spares = tt

    worn_cause : (r : Result ℕ ChipFault)
        → Accounts (IsNotTaken then) r mid new → Accounts (IsNotTaken then) r old new
    worn_cause (Ok place) did =
        record { counts = counts_then old mid new finds.counts did.counts; cause = tt }
    worn_cause (Err fault) did = record {
      counts = counts_then old mid new finds.counts did.counts;
      cause = elim did.cause [
        | inl stopped ↦ inl (stopped.0, omega (arith, stopped.1, finds.counts.writes))
        | inr worn ↦ inr (worn.0, worn.1, omega (arith, worn.2, finds.counts.worn))
      ];
    }

    pub worn_then : TakesFree d old r then new
    worn_then = record {
      directory = worn_directory;
      takes = worn_rests;
      tells = worn_tells r rest.tells;
      spares = worn_spares r rest.spares;
      costs = spends_then (λ a. a ≡ Worn p ∷ []) (ErasesNext (put_aside d p) r then)
          (ErasesNext d r then) old mid new
          (λ later earlier one two. rw one (worn_erases r later two))
          (one_spent (λ a. a ≡ Worn p ∷ []) (Worn p) old mid refl finds.worn) rest.costs;
      tidy = spends_then (Clears p false) (ClearsNext (put_aside d p) r) (ClearsNext d r) old mid new
          (λ later earlier one two. worn_clears r later earlier one two)
          (one_spent (Clears p false) (Worn p) old mid (clears_worn p) finds.worn) rest.tidy;
      unread = unread_then old mid new
          (one_spent ReadsNothing (Worn p) old mid (λ q s. refl) finds.worn) rest.unread;
      accounts = worn_cause r rest.accounts;
    }

-- ---- several, one after the other

-- so many places are retired after those that were found worn, and what is done then is all that is done
pub record AreTried (first d : Places) (old t : Told) (retired spares : ℕ) : Type 0 where
  pub later : (r : Result ℕ ChipFault) (then : Places) (new : Told) → TakesFree d t r then new
      → TakesFree first old r then new
  pub ready : IsReadyToTake d
  pub places : length d.in_use ≡ t.places
  pub many : length d.retired ≡ retired
  pub spares_are : spares_of d ≡ spares

-- one more is worn
pub tried_more : (first d between then : Places) (p : ℕ) (old t mid : Told) (retired spares : ℕ)
    → AreTried first d old t retired spares → FindsNextWorn d t p between mid
    → then ≡ with_retired between p → AreTried first then old mid (retired + 1) spares
tried_more first d between then p old t mid retired spares tried finds is =
    subst (λ (e : Places). AreTried first e old mid (retired + 1) spares)
    (sym (is ∙ ap (λ (b : Places). with_retired b p) finds.places_is)) (record {
      later = λ r after new rest. tried.later r after new
          (worn_then d between p t mid (omega (arith, finds.next.within, tried.places)) finds tried.ready
          r after new rest);
      ready = stay.ready;
      places = length-set d.in_use p true ∙ (tried.places ∙ sym finds.counts.places);
      many = stay.more ∙ ap (λ (n : ℕ). n + 1) tried.many;
      spares_are = ap (λ (n : ℕ). spares_on n (length d.current)) (length-set d.in_use p true)
          ∙ tried.spares_are;
    })
  where
    stay : SetsAside d p
    stay = ready_places_stay d p tried.ready finds.next.free
