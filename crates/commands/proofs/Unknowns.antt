-- Samples at which unknown bits are refused.
use Rattle.std.proofs.Common.{◌≡◌, refl, sym, ◌∙◌, ap, subst, ℕ, ◌<◌, true, false, List, [], ◌∷◌, ◌++◌, map, Option, None, Some, Ok, Err, arith, inl, inr}
use Rattle.std.specs.Prelude.{◌⊎◌, Result}
use Rattle.std.specs.List.{flat_map, list_any}
use Rattle.std.proofs.lemmas.Bool.{cases_lt}
use Rattle.psl_layer_theory.specs.Answers.{Numbered, directive_of}
use Rattle.psl_tree.specs.Trees.{formula_of}
use Rattle.psl_tree.specs.declared.atom.Atom.{Atom}
use Rattle.psl_tree.specs.declared.directive.Directive.{Directive}
use Rattle.commands.proofs.Alike.{Agree, alike-err}
use Rattle.commands.proofs.Composing.{fails-of-more}
use Rattle.commands.proofs.SameUnits.{SameUnit}
use Rattle.commands.specs.Faults.{of_none}
use Rattle.commands.specs.Stages.{IsReading, IsTextFault, TextFails}
use Rattle.commands.specs.Waves.{IsFirstRefused, JudgeReading, KnownReading, unknown_fault}
use Rattle.commands.specs.declared.outcome.Fault.{Fault}
use Rattle.commands.specs.declared.reason.Reason.TheVariants.{NoMemory}
use Rattle.vcd_reader.specs.declared.unknown.Unknown.{Unknown}
use Rattle.vcd_reader.specs.declared.unknown.Unknown.TheVariants.{Zero, One, Refuse}
use Rattle.vcd_reader.specs.FirstUnknown.{IsFirstUnknown, is_unknown_for, tests_unknown}
use Rattle.vcd_reader.specs.Sampled.{Sampled}
use Rattle.vcd_reader.specs.Tested.{atoms_in, atoms_tested}
use Rattle.wave_judge.specs.declared.verdict.Verdict.{Verdict}

module _ (unknown : Unknown) (unit name : List ℕ) (sampled : Sampled) (directives : List Directive) where
  abbrev IsRefused : Fault → Type 0
  IsRefused fault = IsTextFault (unit ∷ name ∷ []) (KnownReading unknown unit name sampled directives (Err fault)) fault

  -- a sample is refused
  pub known-refused : (sample : ℕ) (fault : Fault) → IsFirstRefused unknown sampled directives (Some sample)
      → (fault ≡ of_none NoMemory) ⊎ (fault ≡ unknown_fault name sampled sample)
      → IsReading (unit ∷ name ∷ []) (KnownReading unknown unit name sampled directives) (Err fault)
  known-refused sample fault first (inl e) = record { gives = tt; refuses = inl e }
  known-refused sample fault first (inr e) = record {
    gives = tt;
    refuses = inr (subst IsRefused (sym e) record {
      cause = refl;
      file = inr (inl record { reason = tt; file = refl; signal = λ _. refl });
      refusal = inl (sample, first, refl);
    });
  }

  -- none is
  pub known-judged : (result : Result (List Verdict) Fault) → IsFirstRefused unknown sampled directives None
      → IsReading (unit ∷ []) (JudgeReading unit sampled directives) result
      → IsReading (unit ∷ name ∷ []) (KnownReading unknown unit name sampled directives) result
  known-judged (Ok verdicts) none r = record { gives = inr (none, r.gives); refuses = tt }
  known-judged (Err fault) none r = record { gives = tt; refuses = by (fails-of-more (unit ∷ []) (name ∷ []) (λ f. JudgeReading unit sampled directives (Err f)) fault r.refuses) }
    where
      by : TextFails (unit ∷ name ∷ []) (λ f. JudgeReading unit sampled directives (Err f)) fault
          → TextFails (unit ∷ name ∷ []) (λ f. KnownReading unknown unit name sampled directives (Err f)) fault
      by (inl e) = inl e
      by (inr t) = inr record { cause = t.cause; file = t.file; refusal = inr (none, t.refusal) }

-- ---- one answer

-- equal directives test the same atoms
tested-by : (u : List Directive) → atoms_tested u ≡ flat_map (λ (n : Numbered). atoms_in n.formula) (map directive_of u)
tested-by [] = refl
tested-by (d ∷ u) = ap (λ (more : List Atom). atoms_in (formula_of d.formula) ++ more) (tested-by u)

same-tested : (u v : List Directive) → SameUnit u v → atoms_tested u ≡ atoms_tested v
same-tested u v s = tested-by u ∙ ap (flat_map (λ (n : Numbered). atoms_in n.formula)) s ∙ sym (tested-by v)

module _ (sampled : Sampled) where
  sample-tested : (u v : List Directive) (sample : ℕ) → SameUnit u v → tests_unknown sampled u sample ≡ tests_unknown sampled v sample
  sample-tested u v sample s = ap (λ (atoms : List Atom). list_any (is_unknown_for sampled sample) atoms) (same-tested u v s)

  not-before : (u : List Directive) (m n : ℕ) → IsFirstUnknown sampled u (Some m) → IsFirstUnknown sampled u (Some n) → m < n → ⊥
  not-before u m n h k low = let wrong : true ≡ false = sym h.1 ∙ k.2 m low in cc

  moved-first : (u v : List Directive) → SameUnit u v → (first : Option ℕ) → IsFirstUnknown sampled u first → IsFirstUnknown sampled v first
  moved-first u v s None h = λ sample low. sym (sample-tested u v sample s) ∙ h sample low
  moved-first u v s (Some first) h = (h.0, sym (sample-tested u v first s) ∙ h.1, λ sample low. sym (sample-tested u v sample s) ∙ h.2 sample low)

  one-unknown : (u : List Directive) (a b : Option ℕ) → IsFirstUnknown sampled u a → IsFirstUnknown sampled u b → a ≡ b
  one-unknown u None None h k = refl
  one-unknown u None (Some n) h k = absurd (let wrong : true ≡ false = sym k.1 ∙ h n k.0 in cc)
  one-unknown u (Some m) None h k = absurd (let wrong : true ≡ false = sym h.1 ∙ k m h.0 in cc)
  one-unknown u (Some m) (Some n) h k = elim (cases_lt m n) [
    | inl low ↦ absurd (not-before u m n h k low)
    | inr high ↦ elim (cases_lt n m) [
      | inl low ↦ absurd (not-before u n m k h low)
      | inr below ↦ ap Some (omega (arith, high, below))
    ]
  ]

  one-refused : (unknown : Unknown) (u v : List Directive) → SameUnit u v → (a b : Option ℕ) → IsFirstRefused unknown sampled u a → IsFirstRefused unknown sampled v b → a ≡ b
  one-refused Zero u v s a b h k = h ∙ sym k
  one-refused One u v s a b h k = h ∙ sym k
  one-refused Refuse u v s a b h k = one-unknown v a b (moved-first u v s a h) k

some-one : (m n : ℕ) → Some m ≡ Some n → m ≡ n
some-one m n e = cc

some-or-none : (m : ℕ) (o : Option ℕ) → o ≡ Some m → o ≡ None → ⊥
some-or-none m o e f = cc

-- equal directives have one first sample that is refused, and where none is, they are judged alike
pub one-known : (unknown : Unknown) (unit name : List ℕ) (sampled : Sampled) (u v : List Directive) (Same : List Verdict → List Verdict → Type 0) → SameUnit u v
    → Agree Same (JudgeReading unit sampled u) (JudgeReading unit sampled v)
    → Agree Same (KnownReading unknown unit name sampled u) (KnownReading unknown unit name sampled v)
one-known unknown unit name sampled u v Same s judged a b (inl (m, h, e)) (inl (n, k, f)) =
    alike-err Same (unknown_fault name sampled m) (unknown_fault name sampled n) a b e f
    (ap (unknown_fault name sampled) (some-one m n (one-refused sampled unknown u v s (Some m) (Some n) h k)))
one-known unknown unit name sampled u v Same s judged a b (inl (m, h, e)) (inr (k, r)) =
    absurd (some-or-none m (Some m) refl (one-refused sampled unknown u v s (Some m) None h k))
one-known unknown unit name sampled u v Same s judged a b (inr (h, r)) (inl (n, k, f)) =
    absurd (some-or-none n (Some n) refl (sym (one-refused sampled unknown u v s None (Some n) h k)))
one-known unknown unit name sampled u v Same s judged a b (inr (h, r)) (inr (k, q)) = judged a b r q
