-- The worked examples hold.
use Rattle.std.proofs.Common.{◌≡◌, ◌⊎◌, inl, ℤ, pos, negsuc, false, List, [], ◌∷◌, arith, refl}
use Rattle.std.specs.Fmt.{digits}
use Rattle.std.specs.List.{All, Contains}
use Rattle.std.proofs.lemmas.List.Elements.{All-cons, All-nil}
use Rattle.cert_theory.specs.Examples.{contradiction}
use Rattle.cert_theory.specs.Sections.{PassesBehind}
use Rattle.clauses.specs.Logs.{LogEntry, is_empty_lemma, is_lemma}
use Rattle.clauses.specs.Logs.LogEntry.{Lemma, Forget}
use Rattle.cert_text.specs.Evidence.{IsRefuted}
use Rattle.cert_text.specs.Examples.{HasFirstText, HasInductiveText, HasText, IsEvident, IsInductivelyEvident, certificate}

pub has_text : HasText
unfolding digits
has_text = refl

pub has_first_text : HasFirstText
unfolding digits
has_first_text = refl

pub has_inductive_text : HasInductiveText
unfolding digits
has_inductive_text = refl

-- no entry of some is empty
abbrev NoneEmpty : List LogEntry → Type 0
NoneEmpty log = All (λ entry. is_empty_lemma entry ≡ false) log

-- the entries in front of the empty lemma
abbrev front : List LogEntry
front = Lemma (pos 1 ∷ []) (1 ∷ []) ∷ Forget 3 ∷ []

none_empty : NoneEmpty []
none_empty = All-nil (λ entry. is_empty_lemma entry ≡ false)

front_none : NoneEmpty front
front_none =
    All-cons (λ entry. is_empty_lemma entry ≡ false) (Lemma (pos 1 ∷ []) (1 ∷ [])) (Forget 3 ∷ []) refl
    (All-cons (λ entry. is_empty_lemma entry ≡ false) (Forget 3) [] refl none_empty)

one_literal : (literal : ℤ) (set : List ℤ) → Contains set literal → All (Contains set) (literal ∷ [])
one_literal literal set among = All-cons (Contains set) literal [] among (All-nil (Contains set))

-- the lemmas pass
first_passes : PassesBehind contradiction [] (pos 1 ∷ []) (1 ∷ [])
first_passes = record {
  none_empty = none_empty;
  within = refl;
  refuted = (pos 1 ∷ [], refl, one_literal (pos 1) (pos 1 ∷ []) (0, omega arith, refl));
}

left_open : All (λ other. (other ≡ pos 1) ⊎ Contains [] other) (pos 1 ∷ [])
left_open = All-cons (λ other. (other ≡ pos 1) ⊎ Contains [] other) (pos 1) [] (inl refl) (All-nil (λ other. (other ≡ pos 1) ⊎ Contains [] other))

last_passes : PassesBehind contradiction front [] (1 ∷ 2 ∷ [])
last_passes = record {
  none_empty = front_none;
  within = refl;
  refuted = (
    pos 1 ∷ [],
    pos 1,
    refl,
    record { in_clause = (0, omega arith, refl); not_in_set = λ among. omega (arith, among.1); others = left_open },
    (negsuc 0 ∷ [], refl, one_literal (negsuc 0) (negsuc 0 ∷ []) (0, omega arith, refl)),
  );
}

only_passes : PassesBehind contradiction [] [] (1 ∷ 2 ∷ [])
only_passes = record {
  none_empty = none_empty;
  within = refl;
  refuted = (
    pos 1 ∷ [],
    pos 1,
    refl,
    record { in_clause = (0, omega arith, refl); not_in_set = λ among. omega (arith, among.1); others = left_open },
    (negsuc 0 ∷ [], refl, one_literal (negsuc 0) (negsuc 0 ∷ []) (0, omega arith, refl)),
  );
}

no_drops : All (λ entry. is_lemma entry ≡ false) []
no_drops = All-nil (λ entry. is_lemma entry ≡ false)

base_refuted : IsRefuted contradiction certificate.base
base_refuted = record {
  variables = omega arith;
  words = omega arith;
  refutes = record { all_pass = (first_passes, (last_passes, tt)); before = front; hints = 1 ∷ 2 ∷ []; behind = []; is = refl; last = no_drops };
  drops_live = ((omega arith, refl), tt);
  empty_last = front_none;
}

induction_refuted : IsRefuted contradiction certificate.induction
induction_refuted = record {
  variables = omega arith;
  words = omega arith;
  refutes = record { all_pass = (only_passes, tt); before = []; hints = 1 ∷ 2 ∷ []; behind = []; is = refl; last = no_drops };
  drops_live = tt;
  empty_last = none_empty;
}

pub is_evident : IsEvident
is_evident = record {
  is_asked = (refl, refl);
  number = record { least = omega arith; most = omega arith };
  visits = record { least = omega arith; most = omega arith };
  window = record { least = omega arith; most = omega arith };
  base = base_refuted;
  induction = induction_refuted;
}

pub is_inductively_evident : IsInductivelyEvident
is_inductively_evident = record {
  is_asked = (refl, refl);
  number = record { least = omega arith; most = omega arith };
  visits = record { least = omega arith; most = omega arith };
  bits = omega arith;
  within = refl;
  initial = induction_refuted;
  step = base_refuted;
  bad = induction_refuted;
}

pub ruleset example = (is_evident, has_text, has_first_text, is_inductively_evident, has_inductive_text)
