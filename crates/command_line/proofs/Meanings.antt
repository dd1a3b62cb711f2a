-- Words are one command at most.
use Rattle.std.proofs.Common.{◌≡◌, ◌∙◌, ◌<◌, ◌≤◌, ◌^◌, sym, ap, ap₂, refl, subst, ℕ, if◌then◌else◌, ◌==◌, List, [], ◌∷◌, Option, None, Some, slice_get, arith}
use Rattle.command_line.specs.Clap.{Takes}
use Rattle.command_line.specs.Commands.{AreLimits, AreTaken, AreUnnumbered, IsCommand, IsNoCommand, IsRefused, Meaning, Says, Values, kind_of, most_seed, values_of}
use Rattle.command_line.specs.Commands.IsRefused.{unnamed, unnumbered, untaken}
use Rattle.command_line.specs.Commands.Meaning.{wave, gen, show, show_netlist, prove, check, replay}
use Rattle.command_line.specs.Evidences.{IsEvidence, Wanted}
use Rattle.command_line.specs.Kinds.{app_of, name_of, word_of}
use Rattle.command_line.specs.Numbers.{IsGiven}
use Rattle.command_line.specs.Ranges.{IsInRange}
use Rattle.command_line.specs.declared.Limits.{Limits}
use Rattle.command_line.specs.declared.Unknown.{Unknown}
use Rattle.command_line.specs.declared.Unknown.TheVariants.{Zero, One, Refuse}
use Rattle.command_line.specs.declared.kinds.Kind.{Kind}
use Rattle.command_line.specs.declared.kinds.Kind.TheVariants.{Wave, Gen, Show, Prove, Check, Replay}
use Rattle.command_line.proofs.Numbers.{one_number}

some_one : {X : Type 0} (x y : X) → Some x ≡ Some y → x ≡ y
some_one x y e = cc

-- ---- the first word tells the command

-- a number that tells the names apart: the first byte of each
abbrev first_byte : List ℕ → ℕ
first_byte [] = 0
first_byte (x ∷ xs) = x

kind_from : ℕ → Kind
kind_from byte = if byte == 119 then Wave else (if byte == 103 then Gen else (if byte == 115 then Show else (if byte == 112 then Prove else (if byte == 99 then Check else Replay))))

from_name : (kind : Kind) → kind_from (first_byte (name_of kind)) ≡ kind
unfolding kind_from
from_name Wave = refl
from_name Gen = refl
from_name Show = refl
from_name Prove = refl
from_name Check = refl
from_name Replay = refl

one_kind : (words : List (List ℕ)) (a b : Kind) → slice_get words 0 ≡ Some (name_of a) → slice_get words 0 ≡ Some (name_of b) → a ≡ b
one_kind words a b one two =
    sym (from_name a) ∙ (ap (λ (name : List ℕ). kind_from (first_byte name)) (some_one _ _ (sym one ∙ two)) ∙ from_name b)

-- ---- values say one command at most

one_given : (least most first second : ℕ) (value : Option (List ℕ)) → most < 2 ^ 32 → IsGiven least most value first → IsGiven least most value second
    → first ≡ second
one_given least most first second None fits one two = absurd one
one_given least most first second (Some word) fits one two = one_number least most first second word fits one two

one_limits : (values : Values) (a b : Limits) → AreLimits values a → AreLimits values b → a ≡ b
one_limits values a b one two =
    let depth : a.depth ≡ b.depth = one_given _ _ _ _ _ (omega arith) one.depth two.depth in
    let visits : a.visits ≡ b.visits = one_given _ _ _ _ _ (omega arith) one.visits two.visits in
    let steps : a.steps ≡ b.steps = one_given _ _ _ _ _ (omega arith) one.steps two.steps in
    let reach : a.reach ≡ b.reach = sym one.reach ∙ two.reach in
    let covers : a.covers ≡ b.covers = sym one.covers ∙ two.covers in
    let progress : a.progress ≡ b.progress = sym one.progress ∙ two.progress in
    λ i. record { depth = depth i; visits = visits i; steps = steps i; reach = reach i; covers = covers i; progress = progress i }

-- the first byte of each tells how unknown bits read
unknown_from : ℕ → Unknown
unknown_from byte = if byte == 122 then Zero else (if byte == 111 then One else Refuse)

from_word : (unknown : Unknown) → unknown_from (first_byte (word_of unknown)) ≡ unknown
unfolding unknown_from
from_word Zero = refl
from_word One = refl
from_word Refuse = refl

one_unknown : (a b : Unknown) → word_of a ≡ word_of b → a ≡ b
one_unknown a b same = sym (from_word a) ∙ (ap (λ (word : List ℕ). unknown_from (first_byte word)) same ∙ from_word b)

one_evidence : (values : Values) (a b : Wanted) → IsEvidence values a → IsEvidence values b → a ≡ b
one_evidence values a b one two =
    let cert : a.cert ≡ b.cert = sym one.cert ∙ two.cert in
    let vcd : a.vcd ≡ b.vcd = sym one.vcd ∙ two.vcd in
    let loops : a.loops ≡ b.loops = one_given _ _ _ _ _ (omega arith) one.loops two.loops in
    let buses : a.buses ≡ b.buses = sym one.buses ∙ two.buses in
    λ i. record { cert = cert i; vcd = vcd i; loops = loops i; buses = buses i }

one_said : (most : ℕ) (values : Values) (first second : Meaning) → most < 2 ^ 32 → kind_of first ≡ kind_of second → Says most values first
    → Says most values second → first ≡ second
one_said most values (wave a b k p) (wave c d m q) fits same one two =
    let unit : a ≡ c = some_one _ _ (sym one.0 ∙ two.0) in
    let recording : b ≡ d = some_one _ _ (sym one.1 ∙ two.1) in
    let unknown : k ≡ m = one_unknown k m (some_one _ _ (sym one.2 ∙ two.2)) in
    let points : p ≡ q = sym one.3 ∙ two.3 in
    λ i. wave (unit i) (recording i) (unknown i) (points i)
one_said most values (gen a b) (gen c d) fits same one two =
    ap₂ gen (one_given _ _ _ _ _ (omega arith) one.0 two.0) (one_given _ _ _ _ _ fits one.1 two.1)
one_said most values (show a b) (show c d) fits same one two = ap₂ show (some_one _ _ (sym one.0 ∙ two.0)) (some_one _ _ (sym one.1 ∙ two.1))
one_said most values (show_netlist a b) (show_netlist c d) fits same one two =
    ap₂ show_netlist (some_one _ _ (sym one.0 ∙ two.0)) (some_one _ _ (sym one.1 ∙ two.1))
one_said most values (show a b) (show_netlist c d) fits same one two = cc
one_said most values (show_netlist a b) (show c d) fits same one two = cc
one_said most values (prove a b l p) (prove c d m q) fits same one two =
    let unit : a ≡ c = some_one _ _ (sym one.0 ∙ two.0) in
    let netlist : b ≡ d = some_one _ _ (sym one.1 ∙ two.1) in
    let limits : l ≡ m = one_limits values l m one.2 two.2 in
    let evidence : p ≡ q = one_evidence values p q one.3 two.3 in
    λ i. prove (unit i) (netlist i) (limits i) (evidence i)
one_said most values (check a b k p) (check c d m q) fits same one two =
    let unit : a ≡ c = some_one _ _ (sym one.0 ∙ two.0) in
    let netlist : b ≡ d = some_one _ _ (sym one.1 ∙ two.1) in
    let number : k ≡ m = one_given _ _ _ _ _ (omega arith) one.2 two.2 in
    let certificate : p ≡ q = some_one _ _ (sym one.3 ∙ two.3) in
    λ i. check (unit i) (netlist i) (number i) (certificate i)
one_said most values (replay a b r) (replay c d q) fits same one two =
    let unit : a ≡ c = some_one _ _ (sym one.0 ∙ two.0) in
    let netlist : b ≡ d = some_one _ _ (sym one.1 ∙ two.1) in
    let recording : r ≡ q = some_one _ _ (sym one.2 ∙ two.2) in
    λ i. replay (unit i) (netlist i) (recording i)
one_said most values first second fits same one two = cc

-- words are one command at most
pub one_meaning : (most : ℕ) (words : List (List ℕ)) (first second : Meaning) → most < 2 ^ 32 → IsCommand most words first
    → IsCommand most words second → first ≡ second
one_meaning most words first second fits one two =
    let same : kind_of first ≡ kind_of second = one_kind words (kind_of first) (kind_of second) one.0.named two.0.named in
    one_said most (values_of (kind_of first) words) first second fits same one.1
    (subst (λ (kind : Kind). Says most (values_of kind words) second) (sym same) two.1)

-- ---- why words are refused

pub refused_unnumbered : (most : ℕ) (words : List (List ℕ)) (kind : Kind) (values : Values) → AreTaken kind words
    → ((id : List ℕ) → values id ≡ values_of kind words id) → AreUnnumbered most values kind → IsRefused most words
refused_unnumbered most words kind values taken same none =
    let one : values ≡ values_of kind words = λ i id. same id i in
    unnumbered kind taken (subst (λ (all : Values). AreUnnumbered most all kind) one none)

not_said : (most : ℕ) (values : Values) (meaning : Meaning) → Says most values meaning → AreUnnumbered most values (kind_of meaning) → ⊥
not_said most values (wave unit recording unknown points) says none = none unknown says.2
not_said most values (gen seed samples) says none = none seed samples says.0 says.1
not_said most values (show unit names) says none = none
not_said most values (show_netlist unit netlist) says none = none
not_said most values (prove unit netlist limits evidence) says none = none limits evidence says.2 says.3
not_said most values (check unit netlist number certificate) says none = none number says.2
not_said most values (replay unit netlist recording) says none = none

-- refused words are no command
pub no_command : (most : ℕ) (words : List (List ℕ)) → IsRefused most words → IsNoCommand most words
no_command most words (unnamed none) meaning is = none (kind_of meaning) is.0.named
no_command most words (untaken kind named refused) meaning is =
    let same : kind_of meaning ≡ kind = one_kind words (kind_of meaning) kind is.0.named named in
    refused (subst (λ (k : Kind). Takes (app_of k) words) same is.0.taken)
no_command most words (unnumbered kind taken none) meaning is =
    let same : kind ≡ kind_of meaning = one_kind words kind (kind_of meaning) taken.named is.0.named in
    not_said most (values_of (kind_of meaning) words) meaning is.1
    (subst (λ (k : Kind). AreUnnumbered most (values_of k words) k) same none)

-- ---- the ranges of numbers

least_given : (least most number : ℕ) (value : Option (List ℕ)) → IsGiven least most value number → least ≤ number
least_given least most number None given = absurd given
least_given least most number (Some word) given = given.above

most_given : (least most number : ℕ) (value : Option (List ℕ)) → IsGiven least most value number → number ≤ most
most_given least most number None given = absurd given
most_given least most number (Some word) given = given.below

in_range : (most : ℕ) (values : Values) (meaning : Meaning) → Says most values meaning → IsInRange most meaning
in_range most values (wave unit recording unknown points) says = tt
in_range most values (gen seed samples) says =
    let below : seed ≤ most_seed = most_given _ _ _ _ says.0 in
    (omega arith, least_given _ _ _ _ says.1, most_given _ _ _ _ says.1)
in_range most values (show unit names) says = tt
in_range most values (show_netlist unit netlist) says = tt
in_range most values (prove unit netlist limits evidence) says = (
  record {
    some_depth = least_given _ _ _ _ says.2.depth;
    depth = most_given _ _ _ _ says.2.depth;
    visits = most_given _ _ _ _ says.2.visits;
    some_steps = least_given _ _ _ _ says.2.steps;
    steps = most_given _ _ _ _ says.2.steps;
  },
  least_given _ _ _ _ says.3.loops,
  most_given _ _ _ _ says.3.loops,
)
in_range most values (check unit netlist number certificate) says =
    let below : number ≤ 4294967295 = most_given _ _ _ _ says.2 in
    (least_given _ _ _ _ says.2, omega arith)
in_range most values (replay unit netlist recording) says = tt

-- the numbers of a command are in their ranges
pub numbers_in_range : (most : ℕ) (words : List (List ℕ)) (meaning : Meaning) → IsCommand most words meaning → IsInRange most meaning
numbers_in_range most words meaning is = in_range most (values_of (kind_of meaning) words) meaning is.1
