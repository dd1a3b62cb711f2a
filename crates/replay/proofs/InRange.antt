-- The bits that signals of a netlist stand for are bits of signals that have a name.
use Rattle.std.proofs.Common.{◌≡◌, refl, sym, subst, ℕ, zero, suc, ◌+◌, ◌<◌, ⊎_elim, Bool, true, false, List, [], ◌∷◌, map, get_or, Option, None, Some, arith}
use Rattle.std.specs.Prelude.{All, cond, if◌then◌else◌, ◌==◌, ◌&&◌, nat_le, nat_lt}
use Rattle.std.specs.List.{filter, list_all, range_with_len}
use Rattle.std.specs.Option.{IfSome}
use Rattle.std.proofs.lemmas.Bool.{and_parts, leb-true, or_cases}
use Rattle.std.proofs.lemmas.List.Elements.{All-cons, All-filter, All-head, All-nil}
use Rattle.std.proofs.lemmas.List.{get_or_default}
use Rattle.netlist.specs.Design.{Design}
use Rattle.psl_layer_theory.specs.Buses.{Indexed, indexed}
use Rattle.psl_layer_theory.specs.LookUp.{ends_named, first_filled, found_among, is_named, is_same_range, look_up, matches}
use Rattle.psl_layer_theory.specs.References.{distance, is_index}
use Rattle.psl_layer_theory.specs.declared.found.Found.{Found}
use Rattle.psl_layer_theory.specs.declared.found.Found.TheVariants as finds
use Rattle.psl_sugar.specs.Vectors.{bit_of_signal, only_bit}
use Rattle.psl_sugar.specs.declared.vector.Bit.{Bit}
use Rattle.psl_tree.specs.Names.{AreAlike, AtomInRange}
use Rattle.psl_tree.specs.Ranges.{index_count}
use Rattle.psl_tree.specs.declared.name.Name.{Name}
use Rattle.replay.specs.ByBits.{AreBitsOf, atom_of}
use Rattle.replay.specs.Recorded.{bit_found, bit_indexed, bit_named, bit_or_indexed, bit_with_index, recorded}
use Rattle.trace.specs.Trace.{first_text}
use Rattle.vcd_reader.specs.Sampled.{Sampled}

-- a bit of a signal that has a name
IsBitOf : List Name → Bit → Type 0
IsBitOf names bit = AtomInRange names (atom_of bit)

-- each bit of a range is one of the signal
Spans : List Name → ℕ → ℕ → ℕ → Type 0
Spans names signal left right = (place : ℕ) → place < index_count left right → IsBitOf names (bit_of_signal signal place)

each-spans : (names : List Name) → AreAlike names → All (λ name. Spans names name.signal name.left name.right) names
unfolding Spans IsBitOf
each-spans names alike at other inside place low =
    let name = get_or names at other in
    record {
      named = (at, name, inside, get_or_default names at name other inside, refl);
      within = λ k d lt same. subst (λ (n : ℕ). place < n) (alike at other inside k d lt (sym same)) low;
    }

-- what holds of the signal and the range that were found, where one was
FoundHas : (ℕ → ℕ → ℕ → Type 0) → Found → Type 0
FoundHas P finds.Nothing = Unit {0}
FoundHas P (finds.One signal left right) = P signal left right
FoundHas P finds.Several = Unit {0}

by-same : (P : ℕ → ℕ → ℕ → Type 0) (is_same : Bool) (signal left right : ℕ) → P signal left right → FoundHas P (if is_same then finds.One signal left right else finds.Several)
unfolding FoundHas
by-same P true signal left right h = h
by-same P false signal left right h = tt

among-has : (P : ℕ → ℕ → ℕ → Type 0) (some : List Name) → All (λ name. P name.signal name.left name.right) some → FoundHas P (found_among some)
unfolding FoundHas
among-has P [] h = tt
among-has P (first ∷ more) h =
    by-same P (list_all (is_same_range first) more) first.signal first.left first.right (All-head (λ (name : Name). P name.signal name.left name.right) first more h)

filled-has : (Q : Name → Type 0) (first second : List Name) → All Q first → All Q second → All Q (first_filled first second)
filled-has Q [] second h k = k
filled-has Q (name ∷ more) second h k = h

module _ (names : List Name) (alike : AreAlike names) where
  found-spans : (text : List ℕ) → FoundHas (Spans names) (look_up names text)
  found-spans text =
      let each = each-spans names alike in
      among-has (Spans names) (matches names text)
      (filled-has (λ (name : Name). Spans names name.signal name.left name.right) (filter (is_named text) names) (filter (ends_named text) names)
      (All-filter (is_named text) (λ (name : Name). Spans names name.signal name.left name.right) names each)
      (All-filter (ends_named text) (λ (name : Name). Spans names name.signal name.left name.right) names each))

  -- the one bit of a signal
  one-bit : (found : Found) → FoundHas (Spans names) found → IfSome (bit_found found) (IsBitOf names)
  unfolding FoundHas Spans
  one-bit finds.Nothing has = tt
  one-bit (finds.One signal left right) has = by (index_count left right == 1)
    where
      by : (b : Bool) → IfSome (cond b (Some (only_bit signal)) None) (IsBitOf names)
      by true = has 0 (omega arith)
      by false = tt
  one-bit finds.Several has = tt

  -- an index of a range is less far from its right end than the range is wide
  near : (left right index : ℕ) → is_index left right index ≡ true → distance index right < index_count left right
  near left right index is =
      ⊎_elim
      (λ up. let both = and_parts (nat_le left index) (nat_le index right) up in omega (arith, leb-true left index both.0, leb-true index right both.1))
      (λ down. let both = and_parts (nat_le right index) (nat_le index left) down in omega (arith, leb-true right index both.0, leb-true index left both.1))
      (or_cases (nat_le left index && nat_le index right) (nat_le right index && nat_le index left) is)

  -- the bit of an index
  index-bit : (found : Found) (index : ℕ) → FoundHas (Spans names) found → IfSome (bit_with_index found index) (IsBitOf names)
  unfolding FoundHas Spans
  index-bit finds.Nothing index has = tt
  index-bit (finds.One signal left right) index has =
      by (nat_lt 1 (index_count left right) && is_index left right index)
      (λ both. near left right index (and_parts (nat_lt 1 (index_count left right)) (is_index left right index) both).1)
    where
      by : (b : Bool) → (b ≡ true → distance index right < index_count left right) → IfSome (cond b (Some (bit_of_signal signal (distance index right))) None) (IsBitOf names)
      by true low = has (distance index right) (low refl)
      by false low = tt
  index-bit finds.Several index has = tt

  indexed-bit : (name : Option Indexed) → IfSome (bit_indexed names name) (IsBitOf names)
  indexed-bit None = tt
  indexed-bit (Some name) = index-bit (look_up names name.text) name.index (found-spans name.text)

  text-bit : (text : List ℕ) → IfSome (bit_named names text) (IsBitOf names)
  text-bit text = by (look_up names text) (found-spans text)
    where
      by : (found : Found) → FoundHas (Spans names) found → IfSome (bit_or_indexed names text found) (IsBitOf names)
      by finds.Nothing has = indexed-bit (indexed text)
      by (finds.One signal left right) has = one-bit (finds.One signal left right) has
      by finds.Several has = tt

-- the bits that signals stand for are those of names
pub bits-in-range : (design : Design) (recording : Sampled) → AreAlike recording.names → (first count : ℕ) → AreBitsOf recording.names (map (recorded design recording) (range_with_len first count))
unfolding IsBitOf
bits-in-range design recording alike first zero = All-nil (λ (bit : Option Bit). IfSome bit (IsBitOf recording.names))
bits-in-range design recording alike first (suc count) =
    All-cons (λ (bit : Option Bit). IfSome bit (IsBitOf recording.names)) (recorded design recording first) (map (recorded design recording) (range_with_len (first + 1) count))
    (text-bit recording.names alike (first_text design.names first)) (bits-in-range design recording alike (first + 1) count)
