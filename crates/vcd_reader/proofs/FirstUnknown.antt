-- The first sample at which a bit is unknown, atom by atom.
use Rattle.std.proofs.Common.{◌≡◌, inl, inr, ℕ, zero, suc, ◌<◌, ◌≤◌, nat_lt, Bool, true, false, ◌||◌, cond, List, [], ◌∷◌, ◌++◌, length, None, Some, refl, sym, ap, subst, ◌∙◌, arith}
use Rattle.std.proofs.lemmas.Bool.{cases_lt, lt-ltb, le-ltb, cond-true, cond-false}
use Rattle.std.proofs.lemmas.List.{append-nil}
use Rattle.std.specs.List.{list_any}
use Rattle.psl_tree.specs.Trees.{formula_of}
use Rattle.psl_tree.specs.declared.atom.Atom.{Atom}
use Rattle.psl_tree.specs.declared.directive.Directive.{Directive}
use Rattle.vcd_reader.specs.FirstUnknown.{is_unknown_for, IsFirstUnknown, first_below, earliest}
use Rattle.vcd_reader.specs.Sampled.{Sampled}
use Rattle.vcd_reader.specs.Tested.{atoms_in, atoms_tested}

pub earliest_append : (recording : Sampled) (xs ys : List Atom) (until : ℕ) → earliest recording ys (earliest recording xs until) ≡ earliest recording (xs ++ ys) until
earliest_append recording [] ys until = refl
earliest_append recording (x ∷ xs) ys until = earliest_append recording xs ys (first_below (λ sample. is_unknown_for recording sample x) until)

-- ---- the first number below a bound

-- what it is
pub record IsFirstBelow (test : ℕ → Bool) (until first : ℕ) : Type 0 where
  pub within : first ≤ until
  pub before : (n : ℕ) → n < first → test n ≡ false
  pub here : first < until → test first ≡ true

-- the bound, one higher
by_found : (test : ℕ → Bool) (n first : ℕ) (b : Bool) → test n ≡ b → IsFirstBelow test n first → first ≡ n → IsFirstBelow test (suc n) (cond b n (suc n))
by_found test n first true is found ends = record {
  within = omega arith;
  before = λ k low. found.before k (omega (arith, low, ends));
  here = λ low. is;
}
by_found test n first false is found ends = record {
  within = omega arith;
  before = λ k low. elim (cases_lt k n) [
    | inl below ↦ found.before k (omega (arith, below, ends))
    | inr high ↦ let same : k ≡ n = omega (arith, low, high) in ap test same ∙ is
  ];
  here = λ low. absurd (omega (arith, low));
}

pub is-first : (test : ℕ → Bool) (until : ℕ) → IsFirstBelow test until (first_below test until)
is-first test zero = record { within = omega arith; before = λ n low. absurd (omega (arith, low)); here = λ low. absurd (omega (arith, low)) }
is-first test (suc n) =
    let found = is-first test n in
    elim (cases_lt (first_below test n) n) [
      | inl low ↦
          subst (IsFirstBelow test (suc n)) (sym (cond-true (nat_lt (first_below test n) n) _ _ (lt-ltb (first_below test n) n low)))
          (record { within = omega (arith, low); before = found.before; here = λ _. found.here low })
      | inr high ↦
          let ends : first_below test n ≡ n = let within = found.within in omega (arith, high, within) in
          subst (IsFirstBelow test (suc n)) (sym (cond-false (nat_lt (first_below test n) n) _ _ (le-ltb (first_below test n) n high)))
          (by_found test n (first_below test n) (test n) refl found ends)
    ]

-- there is one
pub one-first : (test : ℕ → Bool) (until first other : ℕ) → IsFirstBelow test until first → IsFirstBelow test until other → first ≡ other
one-first test until first other a b =
    let no_less : (x y : ℕ) → IsFirstBelow test until x → IsFirstBelow test until y → x < y → ⊥ =
    λ x y p q low. let in_y = q.within in let yes = p.here (omega (arith, low, in_y)) in let no = q.before x low in let wrong : true ≡ false = sym yes ∙ no in cc in
    elim (cases_lt first other) [
      | inl low ↦ absurd (no_less first other a b low)
      | inr high ↦ elim (cases_lt other first) [
        | inl low ↦ absurd (no_less other first b a low)
        | inr below ↦ omega (arith, high, below)
      ]
    ]

-- ---- of all atoms

more-any : (x rest : Bool) → x ≡ false → rest ≡ false → (x || rest) ≡ false
more-any false false a b = refl
more-any true rest a b = absurd (let wrong : true ≡ false = a in cc)
more-any false true a b = absurd (let wrong : true ≡ false = b in cc)

here-any : (x rest : Bool) → x ≡ true → (x || rest) ≡ true
here-any true rest a = refl
here-any false rest a = absurd (let wrong : false ≡ true = a in cc)

later-any : (x rest : Bool) → rest ≡ true → (x || rest) ≡ true
later-any true rest a = refl
later-any false rest a = a

abbrev any-unknown : Sampled → List Atom → ℕ → Bool
any-unknown recording atoms sample = list_any (is_unknown_for recording sample) atoms

pub is-earliest : (recording : Sampled) (atoms : List Atom) (until : ℕ) → IsFirstBelow (any-unknown recording atoms) until (earliest recording atoms until)
is-earliest recording [] until = record { within = omega arith; before = λ n low. refl; here = λ low. absurd (omega (arith, low)) }
is-earliest recording (atom ∷ atoms) until =
    let test : ℕ → Bool = λ sample. is_unknown_for recording sample atom in
    let middle = first_below test until in
    let one = is-first test until in
    let rest = is-earliest recording atoms middle in
    let last = earliest recording atoms middle in
    let low = one.within in
    let lower = rest.within in
    record {
      within = omega (arith, low, lower);
      before = λ n below. more-any (test n) (any-unknown recording atoms n) (one.before n (omega (arith, below, lower))) (rest.before n below);
      here = λ below. elim (cases_lt last middle) [
        | inl under ↦ later-any (test last) (any-unknown recording atoms last) (rest.here under)
        | inr over ↦
            let same : last ≡ middle = omega (arith, over, lower) in
            here-any (test last) (any-unknown recording atoms last) (ap test same ∙ one.here (omega (arith, same, below)))
      ];
    }

pub first-some : (recording : Sampled) (directives : List Directive) (first : ℕ) → first ≡ earliest recording (atoms_tested directives) (length recording.samples) → first < length recording.samples → IsFirstUnknown recording directives (Some first)
first-some recording directives first is low =
    let found = subst (IsFirstBelow (any-unknown recording (atoms_tested directives)) (length recording.samples)) (sym is) (is-earliest recording (atoms_tested directives) (length recording.samples)) in
    (low, found.here low, found.before)

pub first-none : (recording : Sampled) (directives : List Directive) (first : ℕ) → first ≡ earliest recording (atoms_tested directives) (length recording.samples) → length recording.samples ≤ first → IsFirstUnknown recording directives None
first-none recording directives first is high =
    let found = subst (IsFirstBelow (any-unknown recording (atoms_tested directives)) (length recording.samples)) (sym is) (is-earliest recording (atoms_tested directives) (length recording.samples)) in
    λ sample low. found.before sample (omega (arith, low, high))

-- ---- directive by directive

pub earliest-more : (recording : Sampled) (directives : List Directive) (directive : Directive) (until : ℕ) →
    earliest recording (atoms_in (formula_of directive.formula)) (earliest recording (atoms_tested directives) until) ≡ earliest recording (atoms_tested (directives ++ directive ∷ [])) until
earliest-more recording [] directive until = ap (λ (atoms : List Atom). earliest recording atoms until) (sym (append-nil (atoms_in (formula_of directive.formula))))
earliest-more recording (other ∷ directives) directive until =
    let atoms = atoms_in (formula_of other.formula) in
    let first = earliest recording atoms until in
    ap (earliest recording (atoms_in (formula_of directive.formula))) (sym (earliest_append recording atoms (atoms_tested directives) until))
    ∙ earliest-more recording directives directive first
    ∙ earliest_append recording atoms (atoms_tested (directives ++ directive ∷ [])) until

-- a bound that nothing passes below, and a number that passes before which nothing does
pub no-first : (test : ℕ → Bool) (until : ℕ) → ((n : ℕ) → n < until → test n ≡ false) → until ≡ first_below test until
no-first test until none =
    one-first test until until (first_below test until) (record { within = omega arith; before = none; here = λ low. absurd (omega (arith, low)) }) (is-first test until)

pub this-first : (test : ℕ → Bool) (until n : ℕ) → n < until → test n ≡ true → ((k : ℕ) → k < n → test k ≡ false) → n ≡ first_below test until
this-first test until n low here before =
    one-first test until n (first_below test until) (record { within = omega (arith, low); before = before; here = λ _. here }) (is-first test until)
