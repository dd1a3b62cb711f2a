-- The free bits of places, as nodes behind those of frames. A place has some bits for each obligation, one obligation
-- after the other: whether it is owed there, and then the digits of its number, the lowest one first. An accepting
-- obligation has no number, since no number has to be kept from it or to it. Behind all places follows a bit for each
-- valuation of the run, which says whether the loop begins with it. Places are counted from 0, and all literals hang
-- on how many variables there are before the bits of the first place.
use Rattle.std.specs.Prelude.{ℕ, suc, ◌+◌, ◌*◌, ℤ, pos, cond, List, ◌++◌, map, take, length, sum_by}
use Rattle.std.specs.List.{flat_map, range_with_len}
use Rattle.alternating_theory.specs.Obligations.{Automaton, Obligation, obligation_at}
use Rattle.bounded_theory.specs.Digits.{number_width}
use Rattle.gates_nodes.specs.declared.node.Node.{Node}
use Rattle.gates_nodes.specs.declared.node.Node.TheVariants.{Free}
use Rattle.gates_theory.specs.Distinct.{following}

-- how many digits an obligation's number has, where numbers have so many
abbrev pub digits_of : ℕ → Obligation → ℕ
digits_of width obligation = cond obligation.accepting 0 width

-- how many bits a place has for some obligations
abbrev pub bits_of : ℕ → List Obligation → ℕ
bits_of width obligations = sum_by (λ obligation. suc (digits_of width obligation)) obligations

-- how many bits a place has
abbrev pub place_bits : Automaton → ℕ
place_bits automaton = bits_of (number_width (length automaton.obligations)) automaton.obligations

-- how many of them come before those of an obligation
abbrev pub bits_before : Automaton → ℕ → ℕ
bits_before automaton number = bits_of (number_width (length automaton.obligations)) (take number automaton.obligations)

-- so many free nodes; the label takes the place of a frame's number
abbrev pub block : ℕ → ℕ → List Node
block label size = map (λ bit. Free label bit) (range_with_len 0 size)

-- The bits of all places where there are so many valuations: those of the valuations, of the loop's first one once
-- more, and of what comes behind it. The frames have the labels before these.
abbrev pub place_nodes : Automaton → ℕ → List Node
place_nodes automaton valuations =
    flat_map (λ place. block (suc valuations + place) (place_bits automaton)) (range_with_len 0 (suc (suc valuations)))
    ++ block (suc valuations + suc (suc valuations)) valuations

-- the literal of a place's bit
abbrev pub bit_at : Automaton → ℕ → ℕ → ℕ → ℤ
bit_at automaton before place bit = pos (suc (before + place * place_bits automaton + bit))

-- whether an obligation is owed at a place
abbrev pub owed_at : Automaton → ℕ → ℕ → ℕ → ℤ
owed_at automaton before place number = bit_at automaton before place (bits_before automaton number)

-- the digits of its number there
abbrev pub number_at : Automaton → ℕ → ℕ → ℕ → List ℤ
number_at automaton before place number =
    following (suc (before + place * place_bits automaton + bits_before automaton number))
    (digits_of (number_width (length automaton.obligations)) (obligation_at automaton.obligations number))

-- the loop begins with the valuation of a place
abbrev pub begins_at : Automaton → ℕ → ℕ → ℕ → ℤ
begins_at automaton valuations before place = bit_at automaton before (suc (suc valuations)) place
