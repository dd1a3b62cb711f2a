-- Parts with scores on every course: the start is met exactly where the course's trace satisfies the formula.
use Rattle.std.proofs.Common.{◌≡◌, ◌⊎◌, inl, inr, refl, sym, ap, ◌∙◌, subst, ℕ, ◌≤◌, ◌<◌, Bool as Truth, false, [], arith}
use Rattle.std.specs.Prelude.{◌↔◌, IsTrue, not, ◌&&◌, ◌||◌, None}
use Rattle.psl_tree.specs.Clockless.{IsPlain}
use Rattle.psl_tree.specs.Followed.{Tops, Bottoms, followed}
use Rattle.psl_tree.specs.Satisfaction.{Sat}
use Rattle.psl_tree.specs.Trace.{Trace}
use Rattle.psl_tree.specs.Trees.{Formula}
use Rattle.alternating_theory.specs.Courses.{Course, walk, read_from}
use Rattle.alternating_theory.proofs.Ends.{IsCourse}
use Rattle.alternating_theory.proofs.Raised.{raised, below-tops, above-bottoms}
use Rattle.alternating_theory.proofs.Walks.{read-tops, read-bottoms}
use Rattle.alternating_theory.specs.Construction.{Part}
use Rattle.alternating_theory.specs.Obligations.{Obligation, numbered}
use Rattle.alternating_theory.specs.Positive.{met, owes, OwesWithin}
use Rattle.alternating_theory.proofs.Aborts.{same-test}
use Rattle.alternating_theory.proofs.MetLaws.{within-wider}
use Rattle.alternating_theory.proofs.Parts.{end_of, IsPartOf}
use Rattle.alternating_theory.proofs.Reached.{owed-within}
use Rattle.alternating_theory.proofs.Scores.{lower, Scored}

-- what an obligation is at a place, where these are the values at the next place
abbrev pub met_at : Course → Obligation → (ℕ → ℕ → Truth) → ℕ → Truth
met_at c o value p = met o.delta (c.letter p) (λ r. value (c.next p) r)

pub record ScoredPart (c : Course) (n top bottom offset : ℕ) (part : Part) (f : Formula) : Type 0 where
  pub score : Scored c n top bottom offset (end_of offset part) (numbered offset part.rest)
  pub starts : (p : ℕ) → p < n → IsTrue (met_at c part.start score.value p) ↔ Sat (read_from c p) f None

-- so it is on every course
abbrev pub IsScored : ℕ → Part → Formula → Type 0
IsScored offset part f = (c : Course) (n top bottom : ℕ) → IsCourse c n top bottom → ScoredPart c n top bottom offset part f

-- a value of an obligation that lies between its values at the two ends
pub record IsStart (n top bottom : ℕ) (o : Obligation) (v : ℕ → Truth) : Type 0 where
  pub at_top : v top ≡ o.top
  pub at_bottom : v bottom ≡ o.bottom
  pub up : (p : ℕ) → p < n → IsTrue (v p) → IsTrue o.top
  pub down : (p : ℕ) → p < n → IsTrue o.bottom → IsTrue (v p)

pub start-is : (c : Course) (n top bottom : ℕ) → IsCourse c n top bottom → (offset : ℕ) (part : Part) (f : Formula) → IsPartOf offset part f → IsPlain f
    → (v : ℕ → Truth) → ((p : ℕ) → p < n → IsTrue (v p) ↔ Sat (read_from c p) f None) → IsStart n top bottom part.start v
start-is c n top bottom course offset part f is plain v means = record {
  at_top = same-test (v top) part.start.top (λ h. tops-there ((means top course.top_below).0 h)) (λ h. (means top course.top_below).1 (tops-back h));
  at_bottom = same-test (v bottom) part.start.bottom (λ h. bottoms-there ((means bottom course.bottom_below).0 h)) (λ h. (means bottom course.bottom_below).1 (bottoms-back h));
  up = λ p l h. (is.means Tops []).1 (raised f plain (read_from c p) (followed [] Tops) (below-tops (λ k. c.letter (walk c.next k p))) ((means p l).0 h));
  down = λ p l h. (means p l).1 (raised f plain (followed [] Bottoms) (read_from c p) (above-bottoms (λ k. c.letter (walk c.next k p))) ((is.means Bottoms []).0 h));
}
  where
    tops : read_from c top ≡ followed [] Tops
    tops = read-tops c top course.top_letter course.top_next

    bottoms : read_from c bottom ≡ followed [] Bottoms
    bottoms = read-bottoms c bottom course.bottom_letter course.bottom_next

    tops-there : Sat (read_from c top) f None → IsTrue part.start.top
    tops-there s = (is.means Tops []).1 (subst (λ (w : Trace). Sat w f None) tops s)

    tops-back : IsTrue part.start.top → Sat (read_from c top) f None
    tops-back h = subst (λ (w : Trace). Sat w f None) (sym tops) ((is.means Tops []).0 h)

    bottoms-there : Sat (read_from c bottom) f None → IsTrue part.start.bottom
    bottoms-there s = (is.means Bottoms []).1 (subst (λ (w : Trace). Sat w f None) bottoms s)

    bottoms-back : IsTrue part.start.bottom → Sat (read_from c bottom) f None
    bottoms-back h = subst (λ (w : Trace). Sat w f None) (sym bottoms) ((is.means Bottoms []).0 h)

-- under a numbering that agrees, and another name of the end
module _ (c : Course) (n top bottom low high high' : ℕ) (look look' : ℕ → Obligation) (end : high' ≡ high) (same : (q : ℕ) → low ≤ q → q < high → look' q ≡ look q)
    (s : Scored c n top bottom low high look) where
  old : (q : ℕ) → q < high' → q < high
  old q h = omega arith

  pub renamed : Scored c n top bottom low high' look'
  renamed = record {
    value = s.value;
    level = s.level;
    rank = s.rank;
    height = s.height;
    within = λ q a b. subst (λ (o : Obligation). OwesWithin low high' o.delta) (sym (same q a (old q b)))
        (within-wider low high low high' (omega arith) (omega (arith, end)) (look q).delta (s.within q a (old q b)));
    step = λ p q i a b. s.step p q i a (old q b) ∙ ap (λ (o : Obligation). met o.delta (c.letter p) (s.value (c.next p))) (sym (same q a (old q b)));
    wins = λ p q i a b e v. ap (λ (o : Obligation). met o.delta (c.letter p) (λ r. s.value (c.next p) r && lower s.level s.rank p q (c.next p) r)) (same q a (old q b))
        ∙ s.wins p q i a (old q b) (sym (ap (λ (o : Obligation). o.accepting) (same q a (old q b))) ∙ e) v;
    loses = λ p q i a b e v. ap (λ (o : Obligation). met o.delta (c.letter p) (λ r. s.value (c.next p) r || not (lower s.level s.rank p q (c.next p) r))) (same q a (old q b))
        ∙ s.loses p q i a (old q b) (sym (ap (λ (o : Obligation). o.accepting) (same q a (old q b))) ∙ e) v;
    falls = λ q r a b o. at q r a (old q b) (subst (λ (t : Obligation). IsTrue (owes t.delta r)) (same q a (old q b)) o);
    beneath = λ q a b. s.beneath q a (old q b);
    ends = record {
      at_top = λ q a b. s.ends.at_top q a (old q b) ∙ ap (λ (o : Obligation). o.top) (sym (same q a (old q b)));
      at_bottom = λ q a b. s.ends.at_bottom q a (old q b) ∙ ap (λ (o : Obligation). o.bottom) (sym (same q a (old q b)));
      up = λ p q i a b v. subst (λ (o : Obligation). IsTrue o.top) (sym (same q a (old q b))) (s.ends.up p q i a (old q b) v);
      down = λ p q i a b v. s.ends.down p q i a (old q b) (subst (λ (o : Obligation). IsTrue o.bottom) (same q a (old q b)) v);
    };
  }
    where
      at : (q r : ℕ) → low ≤ q → q < high → IsTrue (owes (look q).delta r) → (s.level r < s.level q) ⊎ ((s.level r ≡ s.level q) × ((look' r).accepting ≡ (look' q).accepting))
      at q r a b o = elim (s.falls q r a b o) as (λ _. (s.level r < s.level q) ⊎ ((s.level r ≡ s.level q) × ((look' r).accepting ≡ (look' q).accepting))) [
        | inl u ↦ inl u
        | inr u ↦ (let w = owed-within low high (look q).delta (s.within q a b) r o in
            inr (u.0, ap (λ (t : Obligation). t.accepting) (same r w.0 w.1) ∙ u.1 ∙ ap (λ (t : Obligation). t.accepting) (sym (same q a b))))
      ]

  pub renamed-value : (p q : ℕ) → renamed.value p q ≡ s.value p q
  unfolding renamed
  renamed-value p q = refl

-- no numbers
pub no-score : (c : Course) (n top bottom low high : ℕ) (look : ℕ → Obligation) → high ≤ low → Scored c n top bottom low high look
no-score c n top bottom low high look e = record {
  value = λ p q. false;
  level = λ q. 0;
  rank = λ p q. 0;
  height = 0;
  within = λ q a b. absurd (omega arith);
  step = λ p q i a b. absurd (omega arith);
  wins = λ p q i a b. absurd (omega arith);
  loses = λ p q i a b. absurd (omega arith);
  falls = λ q r a b. absurd (omega arith);
  beneath = λ q a b. absurd (omega arith);
  ends = record {
    at_top = λ q a b. absurd (omega arith);
    at_bottom = λ q a b. absurd (omega arith);
    up = λ p q i a b. absurd (omega arith);
    down = λ p q i a b. absurd (omega arith);
  };
}
