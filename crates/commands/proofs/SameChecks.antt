-- Of directives that are equal but for where the program keeps their parts, a certificate is not checked for one limit at
-- most, and where it is checked, for none.
use Rattle.std.proofs.Common.{◌≡◌, refl, sym, ◌∙◌, ap, subst, ℕ, ℤ, ◌==◌, Bool, true, false, cond, List, [], ◌∷◌, Option, None, Some, Ok, Err}
use Rattle.std.proofs.lemmas.Option.{same_Some}
use Rattle.alternating_theory.specs.Obligations.{Automaton}
use Rattle.cert_check.specs.Claims.{asked_of, directive_of as directive_at, has_claim, queries_by, queries_for, queries_of}
use Rattle.cert_check.specs.Limits.{ClausesIn, FitsLimits, IsLarge, IsLargeIn, IsLimitBehind, PassesLimit}
use Rattle.cert_theory.proofs.HeaderLines.{header_once}
use Rattle.cert_theory.specs.Headers.{HasHeader}
use Rattle.cert_theory.specs.Sections.{Queries}
use Rattle.cert_theory.specs.Texts.{HasClauses}
use Rattle.cert_theory.specs.declared.header.Form.{Form}
use Rattle.cert_theory.specs.declared.header.Form.TheVariants.{Windowed, Clausal}
use Rattle.cert_theory.specs.declared.header.Asked.{Asked}
use Rattle.cert_theory.specs.declared.header.Header.{Header}
use Rattle.netlist.specs.Design.{Design}
use Rattle.owed.specs.Violations.{violation_of}
use Rattle.psl_layer_theory.specs.Answers.{Numbered, directive_of}
use Rattle.psl_tree.specs.Trees.{Formula}
use Rattle.psl_tree.specs.declared.directive.Directive.{Directive}
use Rattle.owed.proofs.Limiting.{not_sized, one_limit}
use Rattle.owed.specs.Owed.{is_asked, plain_owed}
use Rattle.owed.specs.Sized.{IsRefused, IsSized}
use Rattle.psl_tree.specs.declared.limit.Limit.{Limit}
use Rattle.psl_tree.specs.declared.limit.Limit.TheVariants.{Sere, Automaton as OfAutomaton, Unroll, Formula as OfFormula}
use Rattle.commands.proofs.Alike.{Agree}
use Rattle.commands.proofs.SameOwed.{same-kind, same-owed, same-violation}
use Rattle.commands.proofs.SameUnits.{SameUnit, heads, none-some, same-place, tails}
use Rattle.commands.specs.Checks.{CertReading, IsUnchecked}
use Rattle.commands.specs.Diagnostics.{limit_fault}
use Rattle.commands.specs.Faults.{fault_in}
use Rattle.commands.specs.declared.outcome.CheckedCert.{CheckedCert}
use Rattle.commands.specs.declared.outcome.Fault.{Fault}
use Rattle.commands.specs.declared.reason.Reason.TheVariants as reasons
use Rattle.commands.specs.declared.subject.Subject.{Subject}

-- one text has one limit that it passes

module _ (design : Design) (unit : List Directive) (directive : Directive) (header : Header) (behind : List (List ℤ) → Type 0) where
  fits-or-not : (limit : Limit) → FitsLimits design unit directive header behind → IsLimitBehind design unit directive header behind limit → ⊥
  fits-or-not Sere fits is = not_sized design header.window (plain_owed unit directive) Sere fits.sized is
  fits-or-not OfAutomaton fits is = not_sized design header.window (plain_owed unit directive) OfAutomaton fits.sized is
  fits-or-not Unroll fits is = not_sized design header.window (plain_owed unit directive) Unroll fits.sized is
  fits-or-not OfFormula fits is = fits.formulas is.1

  -- a limit of what is owed comes before that of the formulas, and one of these first
  one-behind : (f g : Limit) → IsLimitBehind design unit directive header behind f → IsLimitBehind design unit directive header behind g → f ≡ g
  one-behind Sere OfFormula h k = absurd (not_sized design header.window (plain_owed unit directive) Sere k.0 h)
  one-behind OfAutomaton OfFormula h k = absurd (not_sized design header.window (plain_owed unit directive) OfAutomaton k.0 h)
  one-behind Unroll OfFormula h k = absurd (not_sized design header.window (plain_owed unit directive) Unroll k.0 h)
  one-behind OfFormula Sere h k = absurd (not_sized design header.window (plain_owed unit directive) Sere h.0 k)
  one-behind OfFormula OfAutomaton h k = absurd (not_sized design header.window (plain_owed unit directive) OfAutomaton h.0 k)
  one-behind OfFormula Unroll h k = absurd (not_sized design header.window (plain_owed unit directive) Unroll h.0 k)
  one-behind OfFormula OfFormula h k = refl
  one-behind Sere Sere h k = refl
  one-behind Sere OfAutomaton h k = one_limit design header.window (plain_owed unit directive) Sere OfAutomaton h k
  one-behind Sere Unroll h k = one_limit design header.window (plain_owed unit directive) Sere Unroll h k
  one-behind OfAutomaton Sere h k = one_limit design header.window (plain_owed unit directive) OfAutomaton Sere h k
  one-behind OfAutomaton OfAutomaton h k = refl
  one-behind OfAutomaton Unroll h k = one_limit design header.window (plain_owed unit directive) OfAutomaton Unroll h k
  one-behind Unroll Sere h k = one_limit design header.window (plain_owed unit directive) Unroll Sere h k
  one-behind Unroll OfAutomaton h k = one_limit design header.window (plain_owed unit directive) Unroll OfAutomaton h k
  one-behind Unroll Unroll h k = refl

module _ (design : Design) (unit : List Directive) (number : ℕ) (text : List ℕ) where
  one-passed : (f g : Limit) → PassesLimit design unit number text f → PassesLimit design unit number text g → f ≡ g
  one-passed f g h k =
      let headers : h.header ≡ k.header = header_once (asked_of unit number) text h.header k.header h.has k.has in
      let directives : h.directive ≡ k.directive = same_Some h.directive k.directive (sym h.is ∙ k.is) in
      one-behind design unit k.directive k.header (ClausesIn design unit number text k.header) f g
      (subst (λ (d : Directive). IsLimitBehind design unit d k.header (ClausesIn design unit number text k.header) f) directives
      (subst (λ (x : Header). IsLimitBehind design unit h.directive x (ClausesIn design unit number text x) f) headers h.limit_is))
      k.limit_is

-- the directives of one number in two such texts

abbrev pub SameFound : Option Directive → Option Directive → Type 0
SameFound None None = Unit {0}
SameFound (Some d) (Some e) = directive_of d ≡ directive_of e
SameFound None (Some e) = ⊥
SameFound (Some d) None = ⊥

pub same-found : (u v : List Directive) (number : ℕ) → SameUnit u v → SameFound (directive_at u number) (directive_at v number)
same-found [] [] number s = tt
same-found [] (e ∷ v) number s = absurd (none-some e v s)
same-found (d ∷ u) [] number s = absurd (none-some d u (sym s))
same-found (d ∷ u) (e ∷ v) number s =
    let same = heads d e u v s in
    let numbers : d.number ≡ e.number = ap (λ (n : Numbered). n.number) same in
    subst (λ (n : ℕ). SameFound (cond (d.number == number) (Some d) (directive_at u number)) (cond (n == number) (Some e) (directive_at v number))) numbers
    (by (d.number == number) same (same-found u v number (tails d e u v s)))
  where
    by : (b : Bool) → directive_of d ≡ directive_of e → SameFound (directive_at u number) (directive_at v number)
        → SameFound (cond b (Some d) (directive_at u number)) (cond b (Some e) (directive_at v number))
    by true same rest = same
    by false same rest = rest

same-claim : (o p : Option Directive) → SameFound o p → has_claim o ≡ has_claim p
same-claim None None s = refl
same-claim (Some d) (Some e) s = ap (is_asked true) (same-kind d e s)
same-claim None (Some e) s = absurd s
same-claim (Some d) None s = absurd s

pub same-asked : (u v : List Directive) (number : ℕ) → SameUnit u v → asked_of u number ≡ asked_of v number
same-asked u v number s =
    let same = same-claim (directive_at u number) (directive_at v number) (same-found u v number s) in
    ap (λ (b : Bool). record { number = number; has_claim = b }) same

-- the directive of a number in the other text
other-found : (o p : Option Directive) (d : Directive) → SameFound o p → o ≡ Some d → (e : Directive) × (p ≡ Some e) × (directive_of d ≡ directive_of e)
other-found None p d s is = absurd (let wrong : None ≡ Some d = is in cc)
other-found (Some c) None d s is = absurd s
other-found (Some c) (Some e) d s is =
    (e, refl, subst (λ (x : Directive). directive_of x ≡ directive_of e) (same_Some c d is) s)

-- the formulas of one number are the same

pub same-queries : (design : Design) (u v : List Directive) → SameUnit u v → (o p : Option Directive) → SameFound o p → queries_by design u o ≡ queries_by design v p
same-queries design u v s None None found = refl
same-queries design u v s (Some d) (Some e) found = ap (λ (a : Automaton). queries_for design a) (same-violation u v d e s found)
same-queries design u v s None (Some e) found = absurd found
same-queries design u v s (Some d) None found = absurd found

-- what is too large in one form of a certificate
moved-large : (form : Form) (design : Design) (automaton : Automaton) (header : Header) (behind other : List (List ℤ) → Type 0)
    → ((clauses : List (List ℤ)) → behind clauses → other clauses) → IsLargeIn form design automaton header behind → IsLargeIn form design automaton header other
moved-large (Windowed version) design automaton header behind other same large = large
moved-large Clausal design automaton header behind other same large = (large.0, same large.0 large.1, large.2)

module _ (design : Design) (u v : List Directive) (s : SameUnit u v) where
  moved-clauses : (number : ℕ) (text : List ℕ) (header : Header) (clauses : List (List ℤ)) → ClausesIn design u number text header clauses
      → ClausesIn design v number text header clauses
  moved-clauses number text header clauses has =
      subst (λ (q : Queries). HasClauses (asked_of v number) q text header clauses)
      (same-queries design u v s (directive_at u number) (directive_at v number) (same-found u v number s))
      (subst (λ (a : Asked). HasClauses a (queries_of design u number) text header clauses) (same-asked u v number s) has)

  moved-behind : (d e : Directive) (header : Header) (behind other : List (List ℤ) → Type 0) (limit : Limit) → directive_of d ≡ directive_of e
      → ((clauses : List (List ℤ)) → behind clauses → other clauses) → IsLimitBehind design u d header behind limit → IsLimitBehind design v e header other limit
  moved-behind d e header behind other Sere same move h =
      subst (λ (f : Formula). IsRefused design header.window f Sere) (same-owed u v d e s same) h
  moved-behind d e header behind other OfAutomaton same move h =
      subst (λ (f : Formula). IsRefused design header.window f OfAutomaton) (same-owed u v d e s same) h
  moved-behind d e header behind other Unroll same move h =
      subst (λ (f : Formula). IsRefused design header.window f Unroll) (same-owed u v d e s same) h
  moved-behind d e header behind other OfFormula same move h = (
    subst (IsSized design header.window) (same-owed u v d e s same) h.0,
    moved-large header.form design (violation_of v e) header behind other move
        (subst (λ (a : Automaton). IsLarge design a header behind) (same-violation u v d e s same) h.1),
  )

  pub moved-limit : (number : ℕ) (text : List ℕ) (limit : Limit) → PassesLimit design u number text limit → PassesLimit design v number text limit
  moved-limit number text limit h =
      let at = other-found (directive_at u number) (directive_at v number) h.directive (same-found u v number s) h.is in
      record {
        header = h.header;
        directive = at.0;
        has = subst (λ (a : Asked). HasHeader a text h.header) (same-asked u v number s) h.has;
        is = at.1;
        limit_is = moved-behind h.directive at.0 h.header (ClausesIn design u number text h.header) (ClausesIn design v number text h.header) limit at.2
            (moved-clauses number text h.header) h.limit_is;
      }

-- what is told of a limit
pub same-limit-fault : (u v : List Directive) → SameUnit u v → (unit netlist : List ℕ) (number : ℕ) (limit : Limit)
    → limit_fault unit netlist u number limit ≡ limit_fault unit netlist v number limit
same-limit-fault u v s unit netlist number Sere =
    ap (λ place. fault_in unit (record { reason = reasons.SereTooLarge; place = place })) (same-place u v number s)
same-limit-fault u v s unit netlist number OfAutomaton =
    ap (λ place. fault_in unit (record { reason = reasons.AutomatonTooLarge; place = place })) (same-place u v number s)
same-limit-fault u v s unit netlist number Unroll = refl
same-limit-fault u v s unit netlist number OfFormula = refl

-- a text is checked, or one limit is told

abbrev Any-two : CheckedCert → CheckedCert → Type 0
Any-two a b = Unit {0}

abbrev of-design : Design → List Directive → Subject
of-design design unit = record { netlist = design; directives = unit }

module _ (unit netlist : List ℕ) (number : ℕ) (design : Design) (text : List ℕ) where
  not-unchecked : (u v : List Directive) → SameUnit u v → (checked : CheckedCert) (fault : Fault)
      → CertReading unit netlist number (of-design design u) text (Ok checked) → IsUnchecked unit netlist number (of-design design v) text fault → ⊥
  not-unchecked u v s checked fault h k =
      let passes = moved-limit design v u (sym s) number text k.limit k.passes in
      fits-or-not design u passes.directive passes.header (ClausesIn design u number text passes.header) k.limit
      (h.fits passes.header passes.directive passes.has passes.is) passes.limit_is

  pub one-checked-of : (u v : List Directive) → SameUnit u v
      → Agree Any-two (CertReading unit netlist number (of-design design u) text) (CertReading unit netlist number (of-design design v) text)
  one-checked-of u v s (Ok a) (Ok b) h k = tt
  one-checked-of u v s (Ok a) (Err g) h k = absurd (not-unchecked u v s a g h k)
  one-checked-of u v s (Err f) (Ok b) h k = absurd (not-unchecked v u (sym s) b f k h)
  one-checked-of u v s (Err f) (Err g) h k =
      let limit : h.limit ≡ k.limit = one-passed design v number text h.limit k.limit (moved-limit design u v s number text h.limit h.passes) k.passes in
      h.fault_is ∙ same-limit-fault u v s unit netlist number h.limit ∙ ap (limit_fault unit netlist v number) limit ∙ sym k.fault_is
