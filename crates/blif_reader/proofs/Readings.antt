-- A text has one reading.
use Rattle.std.proofs.Common.{◌≡◌, ℕ, List, get_or, inl, inr, Option, None, Some, refl, sym, ap, ◌∙◌, subst, ⊎_elim}
use Rattle.std.specs.Prelude.{◌⊎◌, Result, Ok, Err}
use Rattle.psl_base.specs.Places.{place_at}
use Rattle.psl_base.specs.Tokens.{PlacedToken}
use Rattle.netlist.specs.Design.{Design}
use Rattle.netlist_order.specs.TableGraph.{table_graph, IsAcyclic}
use Rattle.netlist_order.proofs.Cycles.{cycle-some, cycle-one}
use Rattle.blif_flattening.specs.Hierarchy.{flat_lines}
use Rattle.blif_hierarchy.specs.Depth.{IsTooDeep}
use Rattle.blif_hierarchy.specs.First.{Finds}
use Rattle.blif_hierarchy.specs.Order.{IsRecursive}
use Rattle.blif_hierarchy.specs.Sums.{FindsPast}
use Rattle.blif_flat.specs.Flat.{Models, flat_design, flat_outputs}
use Rattle.blif_hierarchy.proofs.Lengths.{none-long}
use Rattle.blif_model.specs.declared.fault.BlifFault.{BlifFault}
use Rattle.blif_model.specs.declared.fault.BlifFault.TheVariants.{UnknownModel, BadConnection, ModelRecursion, TooDeep, DrivenBySubckt, Undriven, TooLarge, CombinationalCycle}
use Rattle.blif_model.specs.Files.{models_of}
use Rattle.blif_linking.specs.Linked.{IsHierarchy, linked, linked_texts}
use Rattle.blif_linking.specs.Names.{Parts, first_bad, first_driven, first_undriven, first_unknown}
use Rattle.blif_linking.specs.Sizes.{scale_of}
use Rattle.blif_laws.proofs.Hierarchies.{one-hierarchy}
use Rattle.blif_reader.specs.Faults.{FromBad, FromDeep, FromDriven, FromLarge, FromLong, FromRecursion, FromUndriven, IsCycleFault, IsModelsFault, SeeksLong, in_top, place_in, title_place, titles_in}
use Rattle.blif_reader.specs.Meaning.{IsNetlist, IsReading, IsWholeFault}
use Rattle.blif_reader.proofs.Asking.{FaultOr, IsOne, one-asked, one-found, one-sought, rest-asked, rest-sought, some-asked, some-sought, then-asked, then-sought}
use Rattle.blif_reader.proofs.Seeking.{deep-some, long-one, long-some, past-one, past-some, recursive-some}

pub none-in : (found : Option PlacedToken) → place_in found ≡ None → found ≡ None
none-in None is = refl
none-in (Some word) is = cc

-- no rule finds anything, but for tables that depend on themselves
pub record IsFit (text : List ℕ) (parts : Parts) : Type 0 where
  pub known : first_unknown parts ≡ None
  pub connected : first_bad parts ≡ None
  pub finite : Finds (IsRecursive (linked parts)) None
  pub shallow : Finds (IsTooDeep (linked parts)) None
  pub apart : first_driven parts ≡ None
  pub driven : first_undriven parts ≡ None
  pub few : FindsPast (linked parts) (scale_of text parts) None

pub fit-of : (text : List ℕ) (models : Models) (texts : List (List (List ℕ))) (is : IsHierarchy text models texts) → IsFit text is.parts
fit-of text models texts is = record {
  known = is.known;
  connected = is.connected;
  finite = subst (λ (ms : Models). Finds (IsRecursive ms) None) is.models_are is.finite;
  shallow = subst (λ (ms : Models). Finds (IsTooDeep ms) None) is.models_are is.shallow;
  apart = is.apart;
  driven = is.driven;
  few = subst (λ (ms : Models). FindsPast ms (scale_of text is.parts) None) is.models_are is.few;
}

-- then lines are not too long, as with names they take no less
pub short-of : (text : List ℕ) (parts : Parts) → IsFit text parts → SeeksLong (linked parts) (scale_of text parts) None
short-of text parts fit = λ are. none-long (linked parts) (scale_of text parts) fit.few

pub hierarchy-of : (text : List ℕ) (parts : Parts) → models_of text ≡ Ok parts → IsFit text parts → IsHierarchy text (linked parts) (linked_texts parts)
hierarchy-of text parts said fit = record {
  parts = parts;
  said = said;
  known = fit.known;
  connected = fit.connected;
  models_are = refl;
  texts_are = refl;
  finite = fit.finite;
  shallow = fit.shallow;
  apart = fit.apart;
  driven = fit.driven;
  few = fit.few;
}

module _ (text : List ℕ) (parts : Parts) where
  abbrev Good : Type 0
  Good = IsNetlist text (flat_design (linked parts) (linked_texts parts))

  cycle_or_good : models_of text ≡ Ok parts → IsFit text parts → FaultOr (IsCycleFault text parts) Good
  cycle_or_good said fit =
      ⊎_elim
      (λ acyclic. inr (record { models = linked parts; texts = linked_texts parts; fits = hierarchy-of text parts said fit; is = refl; acyclic = acyclic }))
      (λ found. inl (
        CombinationalCycle (place_at text (get_or (flat_outputs (flat_lines (linked parts))) found.0 0)),
        record { table = found.0; first = found.1; is = refl },
      ))
      (cycle-some (table_graph (flat_design (linked parts) (linked_texts parts)).tables))

  models-some : models_of text ≡ Ok parts → FaultOr (IsModelsFault text parts) Good
  models-some said =
      some-asked UnknownModel (place_in (first_unknown parts)) (FromLong text parts) Good (λ known.
      some-sought TooLarge (SeeksLong (linked parts) (scale_of text parts)) (λ k. title_place text (titles_in parts) (in_top k)) (FromBad text parts) Good (long-some (linked parts) (scale_of text parts)) (λ short.
      some-asked BadConnection (place_in (first_bad parts)) (FromRecursion text parts) Good (λ connected.
      some-sought ModelRecursion (Finds (IsRecursive (linked parts))) (title_place text (titles_in parts)) (FromDeep text parts) Good (recursive-some (linked parts)) (λ finite.
      some-sought TooDeep (Finds (IsTooDeep (linked parts))) (title_place text (titles_in parts)) (FromDriven text parts) Good (deep-some (linked parts)) (λ shallow.
      some-asked DrivenBySubckt (place_in (first_driven parts)) (FromUndriven text parts) Good (λ apart.
      some-asked Undriven (place_in (first_undriven parts)) (FromLarge text parts) Good (λ driven.
      some-sought TooLarge (FindsPast (linked parts) (scale_of text parts)) (λ k. title_place text (titles_in parts) (in_top k)) (IsCycleFault text parts) Good (past-some (linked parts) (scale_of text parts)) (λ few.
      cycle_or_good said (record {
        known = none-in (first_unknown parts) known;
        connected = none-in (first_bad parts) connected;
        finite = finite;
        shallow = shallow;
        apart = none-in (first_driven parts) apart;
        driven = none-in (first_undriven parts) driven;
        few = few;
      })))))))))

  one-cycle : IsOne (IsCycleFault text parts)
  one-cycle one other first second =
      let table = cycle-one (table_graph (flat_design (linked parts) (linked_texts parts)).tables) first.table second.table first.first second.first in
      first.is ∙ ap (λ t. CombinationalCycle (place_at text (get_or (flat_outputs (flat_lines (linked parts))) t 0))) table ∙ sym second.is

  pub one-models : IsOne (IsModelsFault text parts)
  one-models =
      one-asked UnknownModel (place_in (first_unknown parts)) (FromLong text parts)
      (one-sought TooLarge (SeeksLong (linked parts) (scale_of text parts)) (λ k. title_place text (titles_in parts) (in_top k)) (FromBad text parts) (long-one (linked parts) (scale_of text parts))
      (one-asked BadConnection (place_in (first_bad parts)) (FromRecursion text parts)
      (one-sought ModelRecursion (Finds (IsRecursive (linked parts))) (title_place text (titles_in parts)) (FromDeep text parts) (one-found (IsRecursive (linked parts)))
      (one-sought TooDeep (Finds (IsTooDeep (linked parts))) (title_place text (titles_in parts)) (FromDriven text parts) (one-found (IsTooDeep (linked parts)))
      (one-asked DrivenBySubckt (place_in (first_driven parts)) (FromUndriven text parts)
      (one-asked Undriven (place_in (first_undriven parts)) (FromLarge text parts)
      (one-sought TooLarge (FindsPast (linked parts) (scale_of text parts)) (λ k. title_place text (titles_in parts) (in_top k)) (IsCycleFault text parts) (past-one (linked parts) (scale_of text parts))
      one-cycle)))))))

  module _ (fault : BlifFault) where
    -- where models fit together, the fault is that of a cycle
    cycle-left : IsFit text parts → IsModelsFault text parts fault → IsCycleFault text parts fault
    cycle-left fit is =
        let long = rest-asked UnknownModel (place_in (first_unknown parts)) (FromLong text parts) fault (ap place_in fit.known) is in
        let bad = rest-sought TooLarge (SeeksLong (linked parts) (scale_of text parts)) (λ k. title_place text (titles_in parts) (in_top k)) (FromBad text parts) fault (long-one (linked parts) (scale_of text parts)) (short-of text parts fit) long in
        let recursion = rest-asked BadConnection (place_in (first_bad parts)) (FromRecursion text parts) fault (ap place_in fit.connected) bad in
        let deep = rest-sought ModelRecursion (Finds (IsRecursive (linked parts))) (title_place text (titles_in parts)) (FromDeep text parts) fault (one-found (IsRecursive (linked parts))) fit.finite recursion in
        let driven = rest-sought TooDeep (Finds (IsTooDeep (linked parts))) (title_place text (titles_in parts)) (FromDriven text parts) fault (one-found (IsTooDeep (linked parts))) fit.shallow deep in
        let undriven = rest-asked DrivenBySubckt (place_in (first_driven parts)) (FromUndriven text parts) fault (ap place_in fit.apart) driven in
        let large = rest-asked Undriven (place_in (first_undriven parts)) (FromLarge text parts) fault (ap place_in fit.driven) undriven in
        rest-sought TooLarge (FindsPast (linked parts) (scale_of text parts)) (λ k. title_place text (titles_in parts) (in_top k)) (IsCycleFault text parts) fault (past-one (linked parts) (scale_of text parts)) fit.few large

    -- rules that find nothing
    pub after-known : first_unknown parts ≡ None → FromLong text parts fault → IsModelsFault text parts fault
    after-known known rest = then-asked UnknownModel (place_in (first_unknown parts)) (FromLong text parts) fault (ap place_in known) rest

    module _ (known : first_unknown parts ≡ None) (short : SeeksLong (linked parts) (scale_of text parts) None) where
      pub after-short : FromBad text parts fault → IsModelsFault text parts fault
      after-short rest =
          after-known known
          (then-sought TooLarge (SeeksLong (linked parts) (scale_of text parts)) (λ k. title_place text (titles_in parts) (in_top k)) (FromBad text parts) fault short rest)

      pub after-connected : first_bad parts ≡ None → FromRecursion text parts fault → IsModelsFault text parts fault
      after-connected connected rest =
          after-short (then-asked BadConnection (place_in (first_bad parts)) (FromRecursion text parts) fault (ap place_in connected) rest)

      pub after-finite : first_bad parts ≡ None → Finds (IsRecursive (linked parts)) None → FromDeep text parts fault → IsModelsFault text parts fault
      after-finite connected finite rest =
          after-connected connected
          (then-sought ModelRecursion (Finds (IsRecursive (linked parts))) (title_place text (titles_in parts)) (FromDeep text parts) fault finite rest)

      pub after-shallow : first_bad parts ≡ None → Finds (IsRecursive (linked parts)) None → Finds (IsTooDeep (linked parts)) None
          → FromDriven text parts fault → IsModelsFault text parts fault
      after-shallow connected finite shallow rest =
          after-finite connected finite
          (then-sought TooDeep (Finds (IsTooDeep (linked parts))) (title_place text (titles_in parts)) (FromDriven text parts) fault shallow rest)

      pub after-apart : first_bad parts ≡ None → Finds (IsRecursive (linked parts)) None → Finds (IsTooDeep (linked parts)) None
          → first_driven parts ≡ None → FromUndriven text parts fault → IsModelsFault text parts fault
      after-apart connected finite shallow apart rest =
          after-shallow connected finite shallow
          (then-asked DrivenBySubckt (place_in (first_driven parts)) (FromUndriven text parts) fault (ap place_in apart) rest)

      pub after-driven : first_bad parts ≡ None → Finds (IsRecursive (linked parts)) None → Finds (IsTooDeep (linked parts)) None
          → first_driven parts ≡ None → first_undriven parts ≡ None → FromLarge text parts fault → IsModelsFault text parts fault
      after-driven connected finite shallow apart driven rest =
          after-apart connected finite shallow apart
          (then-asked Undriven (place_in (first_undriven parts)) (FromLarge text parts) fault (ap place_in driven) rest)

    pub after-fit : IsFit text parts → IsCycleFault text parts fault → IsModelsFault text parts fault
    after-fit fit rest =
        after-driven fit.known (short-of text parts fit) fit.connected fit.finite fit.shallow fit.apart fit.driven
        (then-sought TooLarge (FindsPast (linked parts) (scale_of text parts)) (λ k. title_place text (titles_in parts) (in_top k)) (IsCycleFault text parts) fault fit.few rest)

abbrev Some-reading : List ℕ → Type 0
Some-reading text = (read : Result Design BlifFault) × IsReading text read

of_text : (text : List ℕ) (said : Result Parts BlifFault) → models_of text ≡ said → Some-reading text
of_text text (Ok parts) is =
    ⊎_elim (λ fault. (Err fault.0, inr (record { parts = parts; said = is; first = fault.1 })))
    (λ good. (Ok (flat_design (linked parts) (linked_texts parts)), good)) (models-some text parts is)
of_text text (Err fault) is = (Err fault, inl is)

pub reading-some : (text : List ℕ) → (read : Result Design BlifFault) × IsReading text read
reading-some text = of_text text (models_of text) refl

same_parts : (text : List ℕ) (one other : Parts) → models_of text ≡ Ok one → models_of text ≡ Ok other → one ≡ other
same_parts text one other first second = let both : ◌≡◌ {A = Result Parts BlifFault} (Ok one) (Ok other) = sym first ∙ second in cc

-- the tables of the netlist of models
pub tables-of : (text : List ℕ) (models : Models) (texts : List (List (List ℕ))) (is : IsHierarchy text models texts) (design : Design) → design ≡ flat_design models texts
    → design ≡ flat_design (linked is.parts) (linked_texts is.parts)
tables-of text models texts is design same =
    same ∙ ap (λ (ms : Models). flat_design ms texts) is.models_are ∙ ap (λ (ts : List (List (List ℕ))). flat_design (linked is.parts) ts) is.texts_are

two_netlists : (text : List ℕ) (one other : Design) → IsNetlist text one → IsNetlist text other → one ≡ other
two_netlists text one other first second =
    let same = one-hierarchy text first.models second.models first.texts second.texts first.fits second.fits in
    first.is ∙ ap (λ (ms : Models). flat_design ms first.texts) same.0 ∙ ap (λ (ts : List (List (List ℕ))). flat_design second.models ts) same.1 ∙ sym second.is

not_both : (text : List ℕ) (design : Design) (fault : BlifFault) → IsNetlist text design → (models_of text ≡ Err fault) ⊎ IsWholeFault text fault → ⊥
not_both text design fault net (inl is) = let bad : ◌≡◌ {A = Result Parts BlifFault} (Ok net.fits.parts) (Err fault) = sym net.fits.said ∙ is in cc
not_both text design fault net (inr whole) =
    let same = same_parts text whole.parts net.fits.parts whole.said net.fits.said in
    let first = subst (λ (p : Parts). IsModelsFault text p fault) same whole.first in
    let cycle = cycle-left text net.fits.parts fault (fit-of text net.models net.texts net.fits) first in
    let tables = tables-of text net.models net.texts net.fits design net.is in
    let acyclic = subst (λ (d : Design). IsAcyclic (table_graph d.tables)) tables net.acyclic in
    acyclic cycle.table cycle.first.itself

two_wholes : (text : List ℕ) (one other : BlifFault) → IsWholeFault text one → IsWholeFault text other → one ≡ other
two_wholes text one other first second =
    let same = same_parts text first.parts second.parts first.said second.said in
    one-models text second.parts one other (subst (λ (p : Parts). IsModelsFault text p one) same first.first) second.first

line_or_whole : (text : List ℕ) (one other : BlifFault) → models_of text ≡ Err one → IsWholeFault text other → ⊥
line_or_whole text one other is whole = let bad : ◌≡◌ {A = Result Parts BlifFault} (Err one) (Ok whole.parts) = sym is ∙ whole.said in cc

two_faults : (text : List ℕ) (one other : BlifFault) → (models_of text ≡ Err one) ⊎ IsWholeFault text one → (models_of text ≡ Err other) ⊎ IsWholeFault text other → one ≡ other
two_faults text one other (inl first) (inl second) = let both : ◌≡◌ {A = Result Parts BlifFault} (Err one) (Err other) = sym first ∙ second in cc
two_faults text one other (inl first) (inr second) = absurd (line_or_whole text one other first second)
two_faults text one other (inr first) (inl second) = absurd (line_or_whole text other one second first)
two_faults text one other (inr first) (inr second) = two_wholes text one other first second

pub reading-one : (text : List ℕ) (one other : Result Design BlifFault) → IsReading text one → IsReading text other → one ≡ other
reading-one text (Ok one) (Ok other) first second = ap Ok (two_netlists text one other first second)
reading-one text (Ok one) (Err other) first second = absurd (not_both text one other first second)
reading-one text (Err one) (Ok other) first second = absurd (not_both text other one second first)
reading-one text (Err one) (Err other) first second = ap Err (two_faults text one other first second)
