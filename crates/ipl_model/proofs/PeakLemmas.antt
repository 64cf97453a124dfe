-- What one write more changes in what names weigh and in what slots take.
use Rattle.std.proofs.Common.{◌≡◌, ◌≢◌, ◌⊎◌, inl, inr, ℕ, zero, suc, ◌+◌, ◌-◌, ◌*◌, ◌/◌, ◌%◌, ◌<◌, ◌≤◌, ◌==◌, max, Bool, true, false, cond, List, [], ◌∷◌, map, length, take, set, get_or, replicate, Option, Some, None, refl, sym, ◌∙◌, ap, arith, get_or-set_same, get_or-set_other}
use Rattle.std.specs.Prelude.{IfSome, IfNone}
use Rattle.std.specs.List.{range_with_len}
use Rattle.std.specs.FinMap.{empty, get, get-empty}
use Rattle.std.specs.Option.{option_map_or}
use Rattle.std.specs.Ordering.{nat_cmp}
use Rattle.std.proofs.Math.ListN.{length-set}
use Rattle.std.proofs.Math.Nat.{le-max_left, le-max_right, max-le, max-zero}
use Rattle.std.proofs.lemmas.Bool.{cases_eq, eq-eqb, ne_eqb}
use Rattle.std.proofs.lemmas.List.{ext_get_or}
use Rattle.std.proofs.lemmas.List.FromFn.{length-map-range_with_len, get_or-map-range_with_len}
use Rattle.ipl_base.specs.declared.limits.TheConstants.{SLOTS, UNIT_NAMES}
use Rattle.ipl_base.specs.Sizes.{size_in_page}
use Rattle.ipl_model.specs.State as rules
use Rattle.ipl_model.specs.Peaks.{peaks_of, weight_of_peak, weights, values_at, peaks_at}
use Rattle.ipl_model.specs.declared.plain_model.log.Write.{Write}
use Rattle.ipl_model.specs.Plain.{newest_first, records_of, sizes_in, rooms_in, AreRecordSizes}
use Rattle.ipl_model.proofs.LogLemmas.{newest_first_more}
use Rattle.ipl_model.proofs.SeenLemmas.{get-with_writes}
use Rattle.ipl_model.proofs.WeightLemmas.{weights_at, weights_elsewhere}

-- ---- weights

pub weighs_more : (older : List rules.Write) (n unit more : ℕ) (change : Option (List ℕ)) → n / UNIT_NAMES ≡ unit
    → weight_of_peak (peaks_of older n) + more ≡ weight_of_peak (max (1 + size_in_page change) (peaks_of older n))
    → weights (peaks_of ((n, change) ∷ older)) unit ≡ weights (peaks_of older) unit + more
weighs_more older n unit more change here added =
    ap (weights (peaks_of ((n, change) ∷ older))) (sym here)
    ∙ sums _ _ _ _ (weights_at (peaks_of older) n (1 + size_in_page change)) added
    ∙ ap (λ (u : ℕ). weights (peaks_of older) u + more) here
  where
    sums : (x y old new : ℕ) → x + old ≡ y + new → old + more ≡ new → x ≡ y + more
    sums x y old new sum added = omega (arith, sum, added)

pub weighs_same : (older : List rules.Write) (n unit : ℕ) (change : Option (List ℕ)) → n / UNIT_NAMES ≢ unit
    → weights (peaks_of ((n, change) ∷ older)) unit ≡ weights (peaks_of older) unit
weighs_same older n unit change other = weights_elsewhere (peaks_of older) n (1 + size_in_page change) unit (λ is. other (sym is))

-- ---- lists of numbers by slot

abbrev by_slot : (ℕ → ℕ) → List ℕ
by_slot f = map f (range_with_len 0 SLOTS)

slots_long : (f : ℕ → ℕ) → length (by_slot f) ≡ SLOTS
slots_long f = length-map-range_with_len f 0 SLOTS

at_slot : (f : ℕ → ℕ) (i : ℕ) → i < SLOTS → get_or (by_slot f) i 0 ≡ f i
at_slot f i low = get_or-map-range_with_len f 0 SLOTS i i 0 low (omega arith)

-- lists that agree in each slot
pub slots_same : (xs : List ℕ) (g : ℕ → ℕ) → length xs ≡ SLOTS → ((i : ℕ) → i < SLOTS → get_or xs i 0 ≡ g i) → xs ≡ by_slot g
slots_same xs g long same = ext_get_or 0 xs (by_slot g) (long ∙ sym (slots_long g)) (λ i low.
    let within : i < SLOTS = omega (arith, low, long) in same i within ∙ sym (at_slot g i within))

pub slots_alike : (f g : ℕ → ℕ) → ((i : ℕ) → i < SLOTS → f i ≡ g i) → by_slot f ≡ by_slot g
slots_alike f g same = slots_same (by_slot f) g (slots_long f) (λ i low. at_slot f i low ∙ same i low)

-- one slot set
pub slot_set : (f g : ℕ → ℕ) (j v : ℕ) → j < SLOTS → v ≡ g j → ((i : ℕ) → i < SLOTS → i ≢ j → f i ≡ g i) → set (by_slot f) j v ≡ by_slot g
slot_set f g j v within here elsewhere =
    slots_same (set (by_slot f) j v) g (length-set (by_slot f) j v ∙ slots_long f) (λ i low. by_place i low (cases_eq i j))
  where
    inside : j < length (by_slot f)
    inside = omega (arith, within, slots_long f)

    by_place : (i : ℕ) → i < SLOTS → (i ≡ j) ⊎ (i ≢ j) → get_or (set (by_slot f) j v) i 0 ≡ g i
    by_place i low (inl same) = ap (λ (k : ℕ). get_or (set (by_slot f) j v) k 0) same ∙ get_or-set_same (by_slot f) j v 0 inside ∙ here ∙ ap g (sym same)
    by_place i low (inr other) = get_or-set_other (by_slot f) j i v 0 other ∙ at_slot f i low ∙ elsewhere i low other

-- ---- the name of a slot

pub slot_name : (n page : ℕ) → n / SLOTS ≡ page → SLOTS * page + n % SLOTS ≡ n
slot_name n page is = omega (arith, is)

pub other_slot : (n page i : ℕ) → n / SLOTS ≡ page → i ≢ n % SLOTS → n ≢ SLOTS * page + i
other_slot n page i is other same = other (omega (arith, is, same, slot_name n page is))

pub other_page : (n page i : ℕ) → i < SLOTS → n / SLOTS ≢ page → n ≢ SLOTS * page + i
other_page n page i low other is = other (omega (arith, is, low))

-- ---- what a write changes

abbrev records : List rules.Write → rules.Map
records ws = rules.with_writes ws empty

-- the record of the name that is written, and of another
record_here : (older : List rules.Write) (n k : ℕ) (change : Option (List ℕ)) → n ≡ k → get (records ((n, change) ∷ older)) k ≡ change
record_here older n k change same =
    let yes : (n == k) ≡ true = eq-eqb n k same in
    get-with_writes ((n, change) ∷ older) empty k
    ∙ ap (λ (b : Bool). option_map_or (λ c. c) (cond b (Some change) (rules.last_write older k)) (get {R = nat_cmp} empty k)) yes

record_there : (older : List rules.Write) (n k : ℕ) (change : Option (List ℕ)) → n ≢ k → get (records ((n, change) ∷ older)) k ≡ get (records older) k
record_there older n k change other =
    let no : (n == k) ≡ false = ne_eqb n k other in
    get-with_writes ((n, change) ∷ older) empty k
    ∙ ap (λ (b : Bool). option_map_or (λ c. c) (cond b (Some change) (rules.last_write older k)) (get {R = nat_cmp} empty k)) no
    ∙ sym (get-with_writes older empty k)

-- the peak of the name that is written, and of another
peak_here : (older : List rules.Write) (n k : ℕ) (change : Option (List ℕ)) → n ≡ k → peaks_of ((n, change) ∷ older) k ≡ max (1 + size_in_page change) (peaks_of older k)
peak_here older n k change same = let yes : (n == k) ≡ true = eq-eqb n k same in rw yes refl

peak_there : (older : List rules.Write) (n k : ℕ) (change : Option (List ℕ)) → n ≢ k → peaks_of ((n, change) ∷ older) k ≡ peaks_of older k
peak_there older n k change other = let no : (n == k) ≡ false = ne_eqb n k other in rw no refl

-- ---- what the records of a page take

zeros : (k i : ℕ) → get_or (replicate {A = ℕ} k 0) i 0 ≡ 0
zeros zero i = refl
zeros (suc k) zero = refl
zeros (suc k) (suc i) = zeros k i

abbrev sizes : List rules.Write → ℕ → ℕ → ℕ
sizes ws page slot = size_in_page (values_at (records ws) page slot)

pub sizes_none : (page : ℕ) → replicate {A = ℕ} SLOTS 0 ≡ by_slot (sizes [] page)
sizes_none page = slots_same (replicate {A = ℕ} SLOTS 0) (sizes [] page) refl (λ i low. zeros SLOTS i ∙ sym (ap size_in_page (get-empty nat_cmp (SLOTS * page + i))))

pub sizes_more : (older : List rules.Write) (n page : ℕ) (change : Option (List ℕ)) → n / SLOTS ≡ page
    → set (by_slot (sizes older page)) (n % SLOTS) (size_in_page change) ≡ by_slot (sizes ((n, change) ∷ older) page)
sizes_more older n page change here =
    slot_set (sizes older page) (sizes ((n, change) ∷ older) page) (n % SLOTS) (size_in_page change) (omega arith)
    (sym (ap size_in_page (record_here older n (SLOTS * page + n % SLOTS) change (sym (slot_name n page here)))))
    (λ i low other. sym (ap size_in_page (record_there older n (SLOTS * page + i) change (other_slot n page i here other))))

pub sizes_still : (older : List rules.Write) (n page : ℕ) (change : Option (List ℕ)) → n / SLOTS ≢ page
    → by_slot (sizes older page) ≡ by_slot (sizes ((n, change) ∷ older) page)
sizes_still older n page change other =
    slots_alike (sizes older page) (sizes ((n, change) ∷ older) page)
    (λ i low. sym (ap size_in_page (record_there older n (SLOTS * page + i) change (other_page n page i low other))))

-- ---- what each record takes

pub records_none : (names : ℕ) (xs : List ℕ) → xs ≡ replicate {A = ℕ} names 0 → AreRecordSizes [] xs
records_none names xs is n low =
    ap (λ (ys : List ℕ). get_or ys n 0) is ∙ zeros names n ∙ sym (ap size_in_page (get-empty nat_cmp n))

-- ---- and may come to take

abbrev rooms : rules.Map → List rules.Write → ℕ → ℕ → ℕ
rooms m ws page slot = max (size_in_page (values_at m page slot)) (peaks_at (peaks_of ws) page slot - 1)

pub rooms_none : (m : rules.Map) (page : ℕ) → by_slot (λ slot. size_in_page (values_at m page slot)) ≡ by_slot (rooms m [] page)
rooms_none m page = slots_alike (λ slot. size_in_page (values_at m page slot)) (rooms m [] page) (λ i low. sym (max-zero (size_in_page (values_at m page i))))

-- a peak that is raised raises what its slot may come to take
raised : (a s m : ℕ) → max (max a (m - 1)) s ≡ max a (max (1 + s) m - 1)
raised a s m =
    let whole : max (1 + s) m ≤ max (max a (m - 1)) s + 1 = max-le (omega (arith, le-max_right (max a (m - 1)) s)) (omega (arith, le-max_right a (m - 1), le-max_left (max a (m - 1)) s)) in
    let less : max a (max (1 + s) m - 1) ≤ max (max a (m - 1)) s = max-le (omega (arith, le-max_left a (m - 1), le-max_left (max a (m - 1)) s)) (omega (arith, whole)) in
    let most = le-max_right a (max (1 + s) m - 1) in
    let more : max (max a (m - 1)) s ≤ max a (max (1 + s) m - 1) =
    max-le (max-le (le-max_left a (max (1 + s) m - 1)) (omega (arith, most, le-max_right (1 + s) m))) (omega (arith, most, le-max_left (1 + s) m)) in
    omega (arith, less, more)

pub rooms_more : (m : rules.Map) (older : List rules.Write) (n page v : ℕ) (change : Option (List ℕ)) → n / SLOTS ≡ page
    → v ≡ max (get_or (by_slot (rooms m older page)) (n % SLOTS) 0) (size_in_page change)
    → set (by_slot (rooms m older page)) (n % SLOTS) v ≡ by_slot (rooms m ((n, change) ∷ older) page)
rooms_more m older n page v change here is =
    slot_set (rooms m older page) (rooms m ((n, change) ∷ older) page) (n % SLOTS) v low
    (is ∙ ap (λ (k : ℕ). max k (size_in_page change)) (at_slot (rooms m older page) (n % SLOTS) low)
    ∙ raised (size_in_page (values_at m page (n % SLOTS))) (size_in_page change) (peaks_of older (SLOTS * page + n % SLOTS))
    ∙ sym (ap (λ (k : ℕ). max (size_in_page (values_at m page (n % SLOTS))) (k - 1)) (peak_here older n (SLOTS * page + n % SLOTS) change (sym (slot_name n page here)))))
    (λ i below other. sym (ap (λ (k : ℕ). max (size_in_page (values_at m page i)) (k - 1)) (peak_there older n (SLOTS * page + i) change (other_slot n page i here other))))
  where
    low : n % SLOTS < SLOTS
    low = omega arith

pub rooms_still : (m : rules.Map) (older : List rules.Write) (n page : ℕ) (change : Option (List ℕ)) → n / SLOTS ≢ page
    → by_slot (rooms m older page) ≡ by_slot (rooms m ((n, change) ∷ older) page)
rooms_still m older n page change other =
    slots_alike (rooms m older page) (rooms m ((n, change) ∷ older) page)
    (λ i low. sym (ap (λ (k : ℕ). max (size_in_page (values_at m page i)) (k - 1)) (peak_there older n (SLOTS * page + i) change (other_page n page i low other))))

-- ---- logs with one write more

module _ (log : List Write) (i : ℕ) (w : Write) (within : i < length log) (is : w ≡ get_or log i w) where
  more_is : newest_first (take (i + 1) log) ≡ (w.name, w.value) ∷ newest_first (take i log)
  more_is = newest_first_more log i w within ∙ ap (λ (x : Write). (x.name, x.value) ∷ newest_first (take i log)) (sym is)

  pub log_weighs_more : (unit more : ℕ) → w.name / UNIT_NAMES ≡ unit
      → weight_of_peak (peaks_of (newest_first (take i log)) w.name) + more ≡ weight_of_peak (max (1 + size_in_page w.value) (peaks_of (newest_first (take i log)) w.name))
      → weights (peaks_of (newest_first (take i log))) unit + more ≡ weights (peaks_of (newest_first (take (i + 1) log))) unit
  log_weighs_more unit more here added =
      sym (ap (λ (ws : List rules.Write). weights (peaks_of ws) unit) more_is ∙ weighs_more (newest_first (take i log)) w.name unit more w.value here added)

  pub log_weighs_same : (unit : ℕ) → w.name / UNIT_NAMES ≢ unit → weights (peaks_of (newest_first (take i log))) unit ≡ weights (peaks_of (newest_first (take (i + 1) log))) unit
  log_weighs_same unit other =
      sym (ap (λ (ws : List rules.Write). weights (peaks_of ws) unit) more_is ∙ weighs_same (newest_first (take i log)) w.name unit w.value other)

  pub log_sizes_more : (page : ℕ) → w.name / SLOTS ≡ page → set (sizes_in (take i log) page) (w.name % SLOTS) (size_in_page w.value) ≡ sizes_in (take (i + 1) log) page
  log_sizes_more page here =
      sizes_more (newest_first (take i log)) w.name page w.value here ∙ sym (ap (λ (ws : List rules.Write). by_slot (sizes ws page)) more_is)

  pub log_sizes_same : (page : ℕ) → w.name / SLOTS ≢ page → sizes_in (take i log) page ≡ sizes_in (take (i + 1) log) page
  log_sizes_same page other =
      sizes_still (newest_first (take i log)) w.name page w.value other ∙ sym (ap (λ (ws : List rules.Write). by_slot (sizes ws page)) more_is)

  -- the size that the record of a name has then
  size_then : (n : ℕ) → size_in_page (get (records_of (take (i + 1) log)) n) ≡ size_in_page (get (records ((w.name, w.value) ∷ newest_first (take i log))) n)
  size_then n = ap (λ (ws : List rules.Write). size_in_page (get (records ws) n)) more_is

  pub log_records_more : (xs : List ℕ) → w.name < length xs → AreRecordSizes (take i log) xs
      → AreRecordSizes (take (i + 1) log) (set xs w.name (size_in_page w.value))
  log_records_more xs inside are n low = by_name (cases_eq n w.name)
    where
      within_xs : n < length xs
      within_xs = omega (arith, low, length-set xs w.name (size_in_page w.value))

      by_name : (n ≡ w.name) ⊎ (n ≢ w.name)
          → get_or (set xs w.name (size_in_page w.value)) n 0 ≡ size_in_page (get (records_of (take (i + 1) log)) n)
      by_name (inl same) =
          ap (λ (k : ℕ). get_or (set xs w.name (size_in_page w.value)) k 0) same
          ∙ get_or-set_same xs w.name (size_in_page w.value) 0 inside
          ∙ sym (size_then n ∙ ap size_in_page (record_here (newest_first (take i log)) w.name n w.value (sym same)))
      by_name (inr other) =
          get_or-set_other xs w.name n (size_in_page w.value) 0 other ∙ are n within_xs
          ∙ sym (size_then n ∙ ap size_in_page (record_there (newest_first (take i log)) w.name n w.value (λ same. other (sym same))))

  pub log_records_same : (xs : List ℕ) → length xs ≤ w.name → AreRecordSizes (take i log) xs → AreRecordSizes (take (i + 1) log) xs
  log_records_same xs outside are n low =
      are n low ∙ sym (size_then n ∙ ap size_in_page (record_there (newest_first (take i log)) w.name n w.value (λ same. omega (arith, low, outside, same))))

  pub log_rooms_more : (committed : List Write) (page v : ℕ) → w.name / SLOTS ≡ page
      → v ≡ max (get_or (rooms_in committed (take i log) page) (w.name % SLOTS) 0) (size_in_page w.value)
      → set (rooms_in committed (take i log) page) (w.name % SLOTS) v ≡ rooms_in committed (take (i + 1) log) page
  log_rooms_more committed page v here most =
      rooms_more (records_of committed) (newest_first (take i log)) w.name page v w.value here most
      ∙ sym (ap (λ (ws : List rules.Write). by_slot (rooms (records_of committed) ws page)) more_is)

  pub log_rooms_same : (committed : List Write) (page : ℕ) → w.name / SLOTS ≢ page → rooms_in committed (take i log) page ≡ rooms_in committed (take (i + 1) log) page
  log_rooms_same committed page other =
      rooms_still (records_of committed) (newest_first (take i log)) w.name page w.value other
      ∙ sym (ap (λ (ws : List rules.Write). by_slot (rooms (records_of committed) ws page)) more_is)

-- ---- values that are short enough

pub of_is : (r : Option (List ℕ)) (bytes : List ℕ) (most : ℕ) → IfSome r (λ v. (v ≡ bytes) × (length bytes ≤ most)) → IfNone r (most < length bytes) → length bytes ≤ most → r ≡ Some bytes
of_is (Some v) bytes most some none fits = ap Some some.0
of_is None bytes most some none fits = absurd (omega (arith, none, fits))
