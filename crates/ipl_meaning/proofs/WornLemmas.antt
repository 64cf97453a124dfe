-- Idle places stay idle, as units and the status move.
use Rattle.std.proofs.Common.{◌≡◌, ◌≢◌, ℕ, ◌<◌, ◌==◌, Bool, true, false, inl, inr, refl, sym, ◌∙◌}
use Rattle.std.proofs.lemmas.Bool.{eqb-true, ne_eqb}
use Rattle.std.proofs.lemmas.List.Elements.{All-contains}
use Rattle.chip_trait.specs.Chart.{with_sector}
use Rattle.ipl_format.specs.Sector.{Sector}
use Rattle.ipl_meaning.specs.Chart.{Chart, IsLive}
use Rattle.ipl_meaning.specs.Layout.{Entry, Shape, Layout, IsLiveIn}
use Rattle.ipl_meaning.specs.Steps.{IsIdle, MaySeal, with_unit, with_committed}
use Rattle.ipl_meaning.specs.StoryLaws.{WornByLayout, IdleAfterCommits, IdleAfterMarks, IdleAfterHeaders, IdleAfterRenewals, IdleAfterOverflows}
use Rattle.ipl_meaning.proofs.PartLemmas.{idle_once, idle_still}

pub worn_by_layout : WornByLayout
worn_by_layout places story c it laid idle jt other p worn = idle_once places c it jt laid other p (idle p worn)

-- a sector put at one place leaves another
elsewhere : (c : Chart) (p s : ℕ) (sector : Sector) (q : ℕ) → q ≢ p → (t : ℕ) → with_sector c p s sector q t ≡ c q t
elsewhere c p s sector q apart t = rw (ne_eqb p q (λ is. apart (sym is))) refl

pub idle_after_commits : IdleAfterCommits
idle_after_commits places c it s sector numbers committed q may idle =
    idle_still places c (with_sector c it.status s sector) it (with_committed it committed) q (elsewhere c it.status s sector q (λ is. idle.not_status (sym is))) refl refl (λ u low. (refl, refl)) idle

pub idle_after_marks : IdleAfterMarks
idle_after_marks places c it s mark q may idle =
    idle_still places c (with_sector c it.status s mark) it it q (elsewhere c it.status s mark q (λ is. idle.not_status (sym is))) refl refl
    (λ u low. (refl, refl)) idle

pub idle_after_overflows : IdleAfterOverflows
idle_after_overflows places c it p head q apart idle = idle_still places c (with_sector c p 0 head) it it q (elsewhere c p 0 head q apart) refl refl (λ u low. (refl, refl)) idle

pub idle_after_renewals : IdleAfterRenewals
idle_after_renewals places c it p head committed q apart idle =
    let same = idle_after_overflows places c it p head q apart idle in record {
      not_status = λ is. apart (sym is);
      not_home = same.not_home;
      no_live = same.no_live;
    }

module _ (places : ℕ) (c : Chart) (it : Layout) (u p : ℕ) (fresh : Shape) (q : ℕ) (may : MaySeal places c it u p fresh) (apart : q ≢ p) (idle : IsIdle places c it q) where
  y : Chart
  y = with_sector c p 0 fresh.head

  same : (t : ℕ) → with_sector c p 0 fresh.head q t ≡ c q t
  same = elsewhere c p 0 fresh.head q apart

  -- nothing there is of the new generation
  none_fresh : (s : ℕ) (x : Sector) → ¬ IsLive (with_sector c p 0 fresh.head) places u fresh.home fresh.head.generation q s x
  none_fresh s x live =
      let was : IsLive c places u p fresh.head.generation q s x = record {
        here = sym (same s) ∙ live.here;
        kind = live.kind;
        of_unit = live.of_unit;
        of_generation = live.of_generation;
        within = live.within;
        counts = elim live.counts [
          | inl at_home ↦ absurd (apart (at_home.0 ∙ may.home))
          | inr over ↦ inr ((over.0.0, sym (same 0) ∙ over.0.1, over.0.2), over.1)
        ];
      } in
      let (e, there, place, number) = may.log.all q s x was in
      apart (sym place ∙ All-contains (λ (f : Entry). f.place ≡ p) fresh.log e may.gathered there)

  by_unit : (v : ℕ) (b : Bool) → (v == u) ≡ b → v < it.count → (s : ℕ) (x : Sector) → ¬ IsLiveIn (with_sector c p 0 fresh.head) places (with_unit it u fresh) v q s x
  by_unit v true at low s x live = none_fresh s x (rw (at, eqb-true v u at) at live)
  by_unit v false off low s x live = (idle_after_overflows places c it p fresh.head q apart idle).no_live v low s x (rw off at live)

  home_apart : (v : ℕ) (b : Bool) → (v == u) ≡ b → v < it.count → ((with_unit it u fresh).units v).home ≢ q
  home_apart v true at low is = let here = rw at at is in apart (sym here ∙ may.home)
  home_apart v false off low is = idle.not_home v low (rw off at is)

  pub sealed_idle : IsIdle places (with_sector c p 0 fresh.head) (with_unit it u fresh) q
  sealed_idle = record {
    not_status = idle.not_status;
    not_home = λ v low. home_apart v (v == u) refl low;
    no_live = λ v low s x. by_unit v (v == u) refl low s x;
  }

pub idle_after_headers : IdleAfterHeaders
idle_after_headers places c it u p fresh q may apart idle = sealed_idle places c it u p fresh q may apart idle
