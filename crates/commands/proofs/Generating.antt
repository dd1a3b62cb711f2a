-- What `gen` gives: the made recording is read as it was made, and its one directive can be judged.
use Rattle.std.proofs.Common.{◌≡◌, ◌⊎◌, inl, inr, refl, sym, ◌∙◌, ap, subst, ℕ, ◌≤◌, List, [], ◌∷◌, None, Ok, arith}
use Rattle.std.specs.Prelude.{Result, All, Any, codes, is_ok, IsOk}
use Rattle.std.proofs.lemmas.List.Elements.{All-cons, All-nil}
use Rattle.alternating.specs.Limits.{HasLargeSequence}
use Rattle.psl_tree.specs.Atoms.{AtomsOfFormula}
use Rattle.psl_tree.specs.Counts.{formula_size, obligations_of}
use Rattle.psl_tree.specs.Plain.{plain}
use Rattle.psl_tree.specs.declared.counts.TheConstants.{MOST_CONSTRUCTORS, MOST_OBLIGATIONS}
use Rattle.psl_tree.specs.Names.{AtomInRange}
use Rattle.psl_tree.specs.declared.atom.Atom.{Atom}
use Rattle.psl_tree.specs.declared.directive.Directive.{Directive}
use Rattle.psl_tree.specs.declared.name.Name.{Name}
use Rattle.psl_tree.specs.Trees.{Formula, formula_of}
use Rattle.commands.specs.Generated.{AreMade, AreAnswered, answered, value_of}
use Rattle.vcd_writer.proofs.Accepting.{accepted}
use Rattle.vcd_writer.specs.Made.{made_text, made_names, made_sampled}
use Rattle.vcd_reader.specs.declared.fault.VcdFault.{VcdFault}
use Rattle.vcd_reader.specs.declared.unknown.Unknown.TheVariants.{Zero}
use Rattle.vcd_reader.specs.Meaning.{reading}
use Rattle.vcd_reader.specs.Rules.{sample_limit}
use Rattle.vcd_reader.specs.Sampled.{Sampled, letters_of}
use Rattle.wave_judge.specs.Faults.{IsFirstRefused, IsJudgeFault, IsJudgeable}
use Rattle.wave_judge.specs.Judged.{AreVerdicts}
use Rattle.psl_tree.specs.declared.limit.Limit.{Limit}
use Rattle.psl_tree.specs.declared.limit.UnitFault.{UnitFault}
use Rattle.wave_judge.proofs.Faults.{not_both}
use Rattle.psl_tree.specs.declared.limit.UnitFault.TheVariants as faults
use Rattle.wave_judge.specs.declared.verdict.Verdict.{Verdict}

-- a made recording has no fault
pub made-faultless : (text : List ℕ) (seed samples : ℕ) → text ≡ made_text seed samples → samples ≤ sample_limit → IsOk (reading Zero text)
made-faultless text seed samples made few = ap (λ (r : Result Sampled VcdFault). is_ok r) (ap (reading Zero) made ∙ accepted Zero seed samples few)

-- what is read of it is what was made
pub read-made : (text : List ℕ) (seed samples : ℕ) (recording : Sampled) → text ≡ made_text seed samples → samples ≤ sample_limit → reading Zero text ≡ Ok recording
    → recording ≡ made_sampled Zero seed samples
read-made text seed samples recording made few read =
    let e : Ok recording ≡ Ok (made_sampled Zero seed samples) = sym read ∙ ap (reading Zero) made ∙ accepted Zero seed samples few in cc

one-all : (P : Directive → Type 0) (d : Directive) → P d → All P (d ∷ [])
one-all P d h = All-cons P d [] h (All-nil P)

-- the lowest bit of a signal that is named
ranged : (names : List Name) (atom : Atom) → atom.bit ≡ 0 → Any (λ (name : Name). name.signal ≡ atom.signal) names → AtomInRange names atom
ranged names atom zero' any = record { named = any; within = λ k d lt e. let low : atom.bit ≡ 0 = zero' in omega arith }

request-named : AtomInRange made_names (value_of 0)
request-named = ranged made_names (value_of 0) refl (0, record { text = codes "req"; signal = 0; left = 0; right = 0 }, omega arith, refl, refl)

answer-named : AtomInRange made_names (value_of 1)
answer-named = ranged made_names (value_of 1) refl (1, record { text = codes "ack"; signal = 1; left = 0; right = 0 }, omega arith, refl, refl)

-- what the formula has, the directives have
of-answered : (P : Formula → Type 0) (unit : List Directive) → AreAnswered unit → P answered → All (λ directive. P (formula_of directive.formula)) unit
of-answered P unit (directive, is, answers) h =
    subst (All (λ (d : Directive). P (formula_of d.formula))) (sym is)
    (one-all (λ (d : Directive). P (formula_of d.formula)) directive (subst P (sym answers.formula) h))

-- the atoms of the directive are those of the names
pub answered-in-range : (names : List Name) (unit : List Directive) → names ≡ made_names → AreAnswered unit → All (λ directive. AtomsOfFormula (AtomInRange names) (formula_of directive.formula)) unit
answered-in-range names unit named answers =
    subst (λ (all : List Name). All (λ (d : Directive). AtomsOfFormula (AtomInRange all) (formula_of d.formula)) unit) (sym named)
    (of-answered (AtomsOfFormula (AtomInRange made_names)) unit answers (tt, (request-named, answer-named)))

pub answered-small : (unit : List Directive) → AreAnswered unit → All (λ directive. formula_size (formula_of directive.formula) ≤ MOST_CONSTRUCTORS) unit
answered-small unit answers = of-answered (λ f. formula_size f ≤ MOST_CONSTRUCTORS) unit answers (omega arith)

pub made-verdicts : (seed samples : ℕ) (recording : Sampled) (unit : List Directive) (verdicts : List Verdict) → samples ≤ sample_limit → recording ≡ made_sampled Zero seed samples
    → AreAnswered unit → AreVerdicts (letters_of recording) unit verdicts → AreMade seed samples verdicts
made-verdicts seed samples recording unit verdicts few made answers judged = record {
  sampled = recording;
  read = accepted Zero seed samples few ∙ ap Ok (sym made);
  directives = unit;
  are_answered = answers;
  judged = judged;
}

-- no part of the formula is a sequence
none-large : ⊥ ⊎ (⊥ ⊎ ⊥) → ⊥
none-large (inl large) = large
none-large (inr (inl large)) = large
none-large (inr (inr large)) = large

-- the directive can be judged
answered-judgeable : (unit : List Directive) → AreAnswered unit → All IsJudgeable unit
answered-judgeable unit (directive, is, answers) =
    subst (All IsJudgeable) (sym is) (one-all IsJudgeable directive (record {
      sequences = λ large. none-large (subst (λ (f : Formula). HasLargeSequence (plain f None)) answers.formula large);
      obligations = subst (λ (f : Formula). obligations_of (plain f None) ≤ MOST_OBLIGATIONS) (sym answers.formula) (omega arith);
    }))

not-refused : (unit : List Directive) (number : ℕ) (limit : Limit) → AreAnswered unit → IsFirstRefused unit number limit → ⊥
not-refused unit number limit answers first = not_both unit number limit (answered-judgeable unit answers) first

-- so the judge has no fault to tell but want of memory
pub memory-alone : (unit : List Directive) (fault : UnitFault) → AreAnswered unit → IsJudgeFault unit fault → fault ≡ faults.NoMemory
memory-alone unit (faults.TooLarge number limit) answers is = absurd (not-refused unit number limit answers is)
memory-alone unit faults.NoMemory answers is = refl
