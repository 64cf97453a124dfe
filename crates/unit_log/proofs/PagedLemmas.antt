-- The log sectors of a page, read by the tables, are those of its unit's log that have a record of the page.
use Rattle.std.proofs.Common.{◌≡◌, ℕ, ◌<◌, ◌≤◌, ◌+◌, ◌-◌, Bool, true, List, [], ◌∷◌, ◌++◌, length, map, slice_index, Option, Some, None, inl, inr, refl, sym, ◌∙◌, ap, ap₂, subst, arith}
use Rattle.std.specs.List.{Contains, filter}
use Rattle.std.proofs.lemmas.Bool.{cases_Bool, cases_eq}
use Rattle.std.proofs.lemmas.List.{length-map}
use Rattle.std.proofs.lemmas.List.Elements.{All-contains, Contains-append_cases, Contains-append_left, Contains-append_right}
use Rattle.std.proofs.lemmas.List.Kept.{AllPairs-filter}
use Rattle.ipl_format.specs.Record.{IsLogPayload}
use Rattle.ipl_format.specs.Sector.{Sector}
use Rattle.ipl_meaning.specs.Chart.{Chart}
use Rattle.ipl_meaning.specs.Layout.{Entry, Layout, IsEntry, IsUnit, IsBelow}
use Rattle.ipl_meaning.specs.Masks.{mask_at, mask_at_spot, mask_of, has_page, is_of_page, of_page}
use Rattle.ipl_meaning.specs.Tables.{Tables, masks_in, home_mask, spots_of, masks_of}
use Rattle.ipl_meaning.specs.Mirrors.{Mirrors}
use Rattle.ipl_meaning.proofs.MaskLemmas.{IsOf, StandApart, mask_names, own_mask, masks_tell}
use Rattle.unit_log.specs.declared.scratch.LogSector.{LogSector}
use Rattle.unit_log.specs.Kept.{kept_of, kept_at, with_found, gathered, CannotBeKept, HasUnfit, HaveRisingSerials}
use Rattle.unit_log.specs.Live.{spots_from}
use Rattle.unit_log.specs.Paged.{names_at_home, home_with, listed_with}
use Rattle.unit_log.proofs.KeptLemmas.{contains_cons, contains_here, contains_there, lists_same, length_with_kept}
use Rattle.unit_log.proofs.FoundLemmas.{gathered_from, gathered_has, found_from, found_kept}
use Rattle.unit_log.proofs.SpotLemmas.{Apart, spots_has, spots_are, map_has, map_from, map_rises, home_apart, pairs_apart, apart_append, pair_same}
use Rattle.unit_log.proofs.LiveLemmas.{serial_has, one_entry}

-- ---- lists

contains_filter : {X : Type 0} (test : X → Bool) (l : List X) (y : X) → Contains (filter test l) y
    → Contains l y × (test y ≡ true)
contains_filter test [] y has = absurd (let within = has.1 in omega (arith, within))
contains_filter test (x ∷ l) y has = elim (cases_Bool (test x)) [
  | inl is ↦ elim (contains_cons x (filter test l) y (rw is at has)) [
    | inl same ↦ (subst (Contains (x ∷ l)) same (contains_here x l), ap test (sym same) ∙ is)
    | inr more ↦ let rest = contains_filter test l y more in (contains_there x l y rest.0, rest.1)
  ]
  | inr not ↦ let rest = contains_filter test l y (rw not at has) in (contains_there x l y rest.0, rest.1)
]

filter_contains : {X : Type 0} (test : X → Bool) (l : List X) (y : X) → Contains l y → test y ≡ true
    → Contains (filter test l) y
filter_contains test [] y has is = absurd (let within = has.1 in omega (arith, within))
filter_contains test (x ∷ l) y has is = elim (contains_cons x l y has) [
  | inl same ↦ rw (ap test same ∙ is) (subst (Contains (x ∷ filter test l)) same (contains_here x (filter test l)))
  | inr more ↦ elim (cases_Bool (test x)) [
    | inl it ↦ rw it (contains_there x (filter test l) y (filter_contains test l y more is))
    | inr not ↦ rw not (filter_contains test l y more is)
  ]
]

apart_filter : (test : ℕ × ℕ → Bool) (l : List (ℕ × ℕ)) → Apart l → Apart (filter test l)
apart_filter test [] apart = tt
apart_filter test (x ∷ l) apart = elim (cases_Bool (test x)) [
  | inl is ↦ rw is ((λ has. apart.0 (contains_filter test l x has).0), apart_filter test l apart.1)
  | inr not ↦ rw not (apart_filter test l apart.1)
]

-- masks that are told by spot
listed_filter : (page : ℕ) (f : ℕ × ℕ → ℕ) (spots : List (ℕ × ℕ))
    → listed_with page spots (map f spots) ≡ filter (λ x. has_page (f x) page) spots
listed_filter page f [] = refl
listed_filter page f (x ∷ spots) = elim (cases_Bool (has_page (f x) page)) [
  | inl is ↦ rw is (ap (λ (l : List (ℕ × ℕ)). x ∷ l) (listed_filter page f spots))
  | inr not ↦ rw not (listed_filter page f spots)
]

-- ---- what is read at spots where log sectors of the log stand

module _ (places : ℕ) (c : Chart) (it : Layout) (u : ℕ) (there : IsUnit c places it.count u (it.units u)) where
  abbrev g : ℕ
  g = (it.units u).head.generation

  abbrev log : List Entry
  log = (it.units u).log

  entry_of : (e : Entry) → Contains log e → IsEntry c places u (it.units u).home g e
  entry_of e has = All-contains (IsEntry c places u (it.units u).home g) log e there.log.each has

  pub stand_apart : StandApart log
  stand_apart e f in_e in_f place number =
      let both : Some e.sector ≡ Some f.sector =
      sym (entry_of e in_e).live.here ∙ ap₂ c place number ∙ (entry_of f in_f).live.here in
      let same : e.sector ≡ f.sector = cc in
      one_entry log e f there.log.rising in_e in_f (ap (λ (x : Sector). x.serial) same)

  -- what is kept of an entry's spot
  kept_there : (e : Entry) → Contains log e → kept_at c u g e.place e.number ≡ Some (kept_of e)
  kept_there e has = let live = (entry_of e has).live in
      found_kept c u g e.place e.number e.sector live.here live.kind live.of_unit live.of_generation

  -- an entry stands at the spot
  pub record HasEntry (p s : ℕ) : Type 0 where
    pub entry : Entry
    pub has : Contains log entry
    pub place : entry.place ≡ p
    pub number : entry.number ≡ s

  kept_is : (p s : ℕ) → (at : HasEntry p s) → kept_at c u g p s ≡ Some (kept_of at.entry)
  kept_is p s at = sym (ap₂ (kept_at c u g) at.place at.number) ∙ kept_there at.entry at.has

  -- as many are kept as spots are read
  all_kept : (spots : List (ℕ × ℕ)) (kept : List LogSector)
      → ((x : ℕ × ℕ) → Contains spots x → HasEntry x.0 x.1)
      → length (gathered c u g spots kept) ≡ length spots + length kept
  all_kept [] kept stand = omega arith
  all_kept (x ∷ spots) kept stand =
      let is = kept_is x.0 x.1 (stand x (contains_here x spots)) in
      let rest = all_kept spots (with_found (kept_at c u g x.0 x.1) kept) (λ y has. stand y (contains_there x spots y has)) in
      let one : length (with_found (kept_at c u g x.0 x.1) kept) ≡ length kept + 1 =
      ap (λ (o : Option LogSector). length (with_found o kept)) is ∙ length_with_kept _ kept in
      omega (arith, rest, one)

  -- where those that are kept come from
  pub record ComesFrom (spots rest : List (ℕ × ℕ)) (z : LogSector) : Type 0 where
    pub spot : ℕ × ℕ
    pub has : Contains spots spot
    pub done : Contains rest spot → ⊥
    pub is : kept_at c u g spot.0 spot.1 ≡ Some z

  module _ (spots : List (ℕ × ℕ)) (stand : (x : ℕ × ℕ) → Contains spots x → HasEntry x.0 x.1) where
    unfit_here : (spot : ℕ × ℕ) (rest : List (ℕ × ℕ)) (kept : List LogSector) → Contains spots spot
        → ((z : LogSector) → Contains kept z → ComesFrom spots (spot ∷ rest) z)
        → (o : Option LogSector) → kept_at c u g spot.0 spot.1 ≡ o → CannotBeKept o kept → ⊥
    unfit_here spot rest kept has from None is unfit = unfit
    unfit_here spot rest kept has from (Some x) is (inr bad) =
        let at = stand spot has in
        let both : Some (kept_of at.entry) ≡ Some x = sym (kept_is spot.0 spot.1 at) ∙ is in
        let same : kept_of at.entry ≡ x = cc in
        bad (subst (λ (z : LogSector). IsLogPayload z.payload.version z.payload.bytes) same (at.entry.records, (entry_of at.entry at.has).records))
    unfit_here spot rest kept has from (Some x) is (inl twice) =
        let (z, in_kept, serial) = serial_has x.serial kept twice in
        let other = from z in_kept in
        let at = stand spot has in
        let too = stand other.spot other.has in
        let both : Some (kept_of at.entry) ≡ Some x = sym (kept_is spot.0 spot.1 at) ∙ is in
        let same : kept_of at.entry ≡ x = cc in
        let both_too : Some (kept_of too.entry) ≡ Some z = sym (kept_is other.spot.0 other.spot.1 too) ∙ other.is in
        let same_too : kept_of too.entry ≡ z = cc in
        let serials : too.entry.sector.serial ≡ at.entry.sector.serial =
        ap (λ (k : LogSector). k.serial) same_too ∙ serial ∙ sym (ap (λ (k : LogSector). k.serial) same) in
        let one : too.entry ≡ at.entry = one_entry log too.entry at.entry there.log.rising too.has at.has serials in
        let spots_same : spot ≡ other.spot =
        pair_same spot other.spot (sym at.place ∙ sym (ap (λ (k : Entry). k.place) one) ∙ too.place)
        (sym at.number ∙ sym (ap (λ (k : Entry). k.number) one) ∙ too.number) in
        other.done (subst (Contains (spot ∷ rest)) spots_same (contains_here spot rest))

    no_unfit_of : (rest : List (ℕ × ℕ)) (kept : List LogSector) → Apart rest
        → ((spot : ℕ × ℕ) → Contains rest spot → Contains spots spot)
        → ((z : LogSector) → Contains kept z → ComesFrom spots rest z) → HasUnfit c u g rest kept → ⊥
    no_unfit_of [] kept apart sub from none = none
    no_unfit_of (spot ∷ rest) kept apart sub from (inl unfit) =
        unfit_here spot rest kept (sub spot (contains_here spot rest)) from
        (kept_at c u g spot.0 spot.1) refl unfit
    no_unfit_of (spot ∷ rest) kept apart sub from (inr later) =
        no_unfit_of rest (with_found (kept_at c u g spot.0 spot.1) kept) apart.1
        (λ x has. sub x (contains_there spot rest x has))
        (λ z has. elim (found_from c u g (kept_at c u g spot.0 spot.1) kept z has) [
          | inl this ↦ record { spot = spot; has = sub spot (contains_here spot rest); done = apart.0; is = this }
          | inr before ↦ let was = from z before in
              record { spot = was.spot; has = was.has; done = λ again. was.done (contains_there spot rest was.spot again); is = was.is }
        ]) later

-- ---- by the masks

module _ (places : ℕ) (c : Chart) (it : Layout) (t : Tables) (u page : ℕ)
    (mirrors : Mirrors places c it t) (low : u < it.count) where
  unit_is : IsUnit c places it.count u (it.units u)
  unit_is = mirrors.laid.each u low

  abbrev own : List (ℕ × ℕ)
  own = home_with page (slice_index t.places.current u) (masks_in t.places u)

  abbrev listed : List (ℕ × ℕ)
  listed = listed_with page (spots_of t u) (masks_of t u)

  abbrev spots : List (ℕ × ℕ)
  spots = own ++ listed

  -- by its mask a listed spot names the page
  abbrev names : ℕ × ℕ → Bool
  names x = has_page (mask_at_spot (it.units u).log x) page

  listed_is : listed ≡ filter names (spots_of t u)
  listed_is = ap (listed_with page (spots_of t u)) (mirrors.masks.elsewhere u low)
      ∙ listed_filter page (mask_at_spot (it.units u).log) (spots_of t u)

  current_is : slice_index t.places.current u ≡ (it.units u).home
  current_is = mirrors.directory.current u low

  -- the log sector at each of the spots has a record of the page
  pub spot_of_page : (p s : ℕ) → Contains spots (p, s) → IsOf (it.units u).log page p s
  spot_of_page p s has = elim (Contains-append_cases own listed (p, s) has) [
    | inl at_home ↦
        let (in_place, told) = contains_filter (names_at_home page (masks_in t.places u)) (spots_from (slice_index t.places.current u) 241 15) (p, s) at_home in
        let (place, least, less) = spots_are (slice_index t.places.current u) 241 15 p s in_place in
        let mask : home_mask t u s ≡ mask_at (it.units u).log p s =
        mirrors.masks.home u s low least (omega (arith, less))
        ∙ ap (λ (q : ℕ). mask_at (it.units u).log q s) (sym (place ∙ current_is)) in
        mask_names (it.units u).log page p s (ap (λ (m : ℕ). has_page m page) (sym mask) ∙ told)
    | inr away ↦
        let (in_list, told) = contains_filter names (spots_of t u) (p, s)
        (subst (λ (l : List (ℕ × ℕ)). Contains l (p, s)) listed_is away) in
        mask_names (it.units u).log page p s told
  ]

  -- and each log sector that has one stands at one of them
  pub page_in_spots : (e : Entry) → Contains (it.units u).log e → is_of_page page e ≡ true
      → Contains spots (e.place, e.number)
  page_in_spots e has is =
      let live = (entry_of places c it u unit_is e has).live in
      let mask : mask_at (it.units u).log e.place e.number ≡ mask_of e.records =
      own_mask (it.units u).log e (stand_apart places c it u unit_is) has in
      let told : has_page (mask_at (it.units u).log e.place e.number) page ≡ true =
      ap (λ (m : ℕ). has_page m page) mask ∙ masks_tell e.records page ∙ is in
      elim (cases_eq e.place (it.units u).home) [
        | inl at ↦ Contains-append_left own listed (e.place, e.number) (at_home e live.within.1 (at_end e at has) at told)
        | inr away ↦ Contains-append_right own listed (e.place, e.number)
            (subst (λ (l : List (ℕ × ℕ)). Contains l (e.place, e.number)) (sym listed_is)
            (filter_contains names (spots_of t u) (e.place, e.number)
            (mirrors.overflow.listed u e.place e.number e.sector low live away) told))
      ]
    where
      at_end : (e : Entry) → e.place ≡ (it.units u).home → Contains (it.units u).log e → 241 ≤ e.number
      at_end e at has = let live = (entry_of places c it u unit_is e has).live in elim live.counts [
        | inl home ↦ home.1
        | inr over ↦ absurd (let (head, here, three) = over.0 in
            let one : (it.units u).head.kind ≡ 1 = unit_is.chosen.fits.0 in
            let both : Some head ≡ Some (it.units u).head = sym here ∙ ap (λ (z : ℕ). c z 0) at ∙ unit_is.chosen.here in
            let kinds : head.kind ≡ (it.units u).head.kind = cc in omega (arith, one, three, kinds))
      ]

      at_home : (e : Entry) → e.number < 256 → 241 ≤ e.number → e.place ≡ (it.units u).home
          → has_page (mask_at (it.units u).log e.place e.number) page ≡ true → Contains own (e.place, e.number)
      at_home e small least at told =
          let mask : home_mask t u e.number ≡ mask_at (it.units u).log e.place e.number =
          mirrors.masks.home u e.number low least small
          ∙ ap (λ (q : ℕ). mask_at (it.units u).log q e.number) (sym at) in
          filter_contains (names_at_home page (masks_in t.places u)) (spots_from (slice_index t.places.current u) 241 15) (e.place, e.number)
          (subst (λ (p : ℕ). Contains (spots_from (slice_index t.places.current u) 241 15) (p, e.number)) (current_is ∙ sym at)
          (subst (λ (s : ℕ). Contains (spots_from (slice_index t.places.current u) 241 15) (slice_index t.places.current u, s)) (omega (arith, least))
          (spots_has (slice_index t.places.current u) 241 15 (e.number - 241) (omega (arith, least, small)))))
          (ap (λ (m : ℕ). has_page m page) mask ∙ told)

  stand : (x : ℕ × ℕ) → Contains spots x → HasEntry places c it u unit_is x.0 x.1
  stand x has = let is = spot_of_page x.0 x.1 has in record { entry = is.entry; has = is.has; place = is.place; number = is.number }

  spots_apart : Apart spots
  spots_apart =
      apart_append own listed
      (apart_filter (names_at_home page (masks_in t.places u)) (spots_from (slice_index t.places.current u) 241 15) (home_apart (slice_index t.places.current u) 241 15))
      (subst Apart (sym listed_is) (apart_filter names (spots_of t u) (pairs_apart (spots_of t u) (mirrors.overflow.once u low))))
      (λ x at away.
      let in_place = (contains_filter (names_at_home page (masks_in t.places u)) (spots_from (slice_index t.places.current u) 241 15) x at).0 in
      let in_list = (contains_filter names (spots_of t u) x (subst (λ (l : List (ℕ × ℕ)). Contains l x) listed_is away)).0 in
      (mirrors.overflow.only u x.0 x.1 low in_list).0
      ((spots_are (slice_index t.places.current u) 241 15 x.0 x.1 in_place).0 ∙ current_is))

  -- none of them is unfit
  pub page_none_unfit : HasUnfit c u (it.units u).head.generation spots [] → ⊥
  page_none_unfit unfit =
      no_unfit_of places c it u unit_is spots stand spots [] spots_apart (λ spot has. has)
      (λ z has. absurd (let within = has.1 in omega (arith, within))) unfit

  paged : List Entry
  paged = of_page page (it.units u).log

  there_log : (z : LogSector) → Contains (gathered c u (it.units u).head.generation spots []) z
      → Contains (map kept_of (of_page page (it.units u).log)) z
  there_log z has = elim (gathered_from c u (it.units u).head.generation spots [] z has) [
    | inr none ↦ absurd (let within = none.1 in omega (arith, within))
    | inl at ↦
        let is = spot_of_page at.spot.0 at.spot.1 at.has in
        let entry : HasEntry places c it u unit_is at.spot.0 at.spot.1 =
        record { entry = is.entry; has = is.has; place = is.place; number = is.number } in
        let both : Some (kept_of is.entry) ≡ Some z = sym (kept_is places c it u unit_is at.spot.0 at.spot.1 entry) ∙ at.is in
        let same : kept_of is.entry ≡ z = cc in
        subst (Contains (map kept_of (of_page page (it.units u).log))) same
        (map_has (of_page page (it.units u).log) is.entry (filter_contains_entry is.entry is.has is.of_page))
  ]
    where
      filter_contains_entry : (e : Entry) → Contains (it.units u).log e → is_of_page page e ≡ true
          → Contains (of_page page (it.units u).log) e
      filter_contains_entry e has is = filter_contains (is_of_page page) (it.units u).log e has is

  back_log : (z : LogSector) → Contains (map kept_of (of_page page (it.units u).log)) z
      → Contains (gathered c u (it.units u).head.generation spots []) z
  back_log z has =
      let (e, listed_e, same) = map_from (of_page page (it.units u).log) z has in
      let (in_log, is) = contains_filter (is_of_page page) (it.units u).log e listed_e in
      gathered_has c u (it.units u).head.generation spots [] e.place e.number z
      (page_in_spots e in_log is)
      (kept_there places c it u unit_is e in_log ∙ ap Some same)

  -- and what they are gathered into is the page's part of the unit's log
  pub page_gathered : HaveRisingSerials (gathered c u (it.units u).head.generation spots [])
      → gathered c u (it.units u).head.generation spots [] ≡ map kept_of (of_page page (it.units u).log)
  page_gathered rise =
      lists_same (gathered c u (it.units u).head.generation spots []) (map kept_of (of_page page (it.units u).log)) rise
      (map_rises (of_page page (it.units u).log)
      (AllPairs-filter IsBelow (is_of_page page) (it.units u).log unit_is.log.rising)) there_log back_log

  -- they are as many
  pub page_count : HaveRisingSerials (gathered c u (it.units u).head.generation spots [])
      → length spots ≡ length (of_page page (it.units u).log)
  page_count rise =
      let all = all_kept places c it u unit_is spots [] stand in
      let same = ap length (page_gathered rise) in
      let size : length (map kept_of (of_page page (it.units u).log)) ≡ length (of_page page (it.units u).log) = length-map (of_page page (it.units u).log) kept_of in
      omega (arith, all, same, size)
