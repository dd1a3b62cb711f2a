-- What is built for an expression, beside what the definitions say that it stands for.
use Rattle.std.specs.Prelude.{◌≡◌, ℕ, List, Option, None, Some, Result, Ok, Err, Box}
use Rattle.std.specs.declared.alloc.Global.{Global}
use Rattle.std.specs.Borrow.{Bor}
use Rattle.std.specs.BTreeMap.{BTreeMap, get_by}
use Rattle.std.specs.Cmp.Lexicographic.{slice_cmp}
use Rattle.std.specs.Ordering.{nat_cmp}
use Rattle.psl_base.specs.declared.items.NoMemory.{NoMemory}
use Rattle.psl_tree.specs.Trees.{Boolean}
use Rattle.psl_sugar.specs.Budget.{GivesBoolean, GivesSequence, GivesFormula}
use Rattle.psl_sugar.specs.declared.fault.SugarFault.{SugarFault}
use Rattle.psl_sugar.specs.declared.operand.Operand.{Operand}
use Rattle.psl_sugar.specs.declared.operand.Operand.TheVariants as sides
use Rattle.psl_layer_theory.specs.Kernel.{Meaning, OfBoolean, OfSequence, OfProperty, Named, declared_meaning, bits_meaning, bits_operand, literal_meaning}
use Rattle.psl_layer_theory.specs.declared.kind.ExpressionKind.{ExpressionKind}
use Rattle.psl_layer_theory.specs.declared.kind.ExpressionKind.TheVariants as kinds
use Rattle.psl_layer.specs.declared.elaborated.Elaborated.{Elaborated}
use Rattle.psl_layer.specs.declared.elaborated.Sense as code_sense
use Rattle.psl_layer.specs.declared.elaborated.Sense.TheVariants as senses
use Rattle.psl_layer.specs.declared.meaning.Meaning as code_meaning
use Rattle.psl_layer.specs.declared.meaning.Meaning.TheVariants as meanings

-- It is of the wanted kind, and it is the wanted tree, or says that this has more than 4,096 constructors. Want of memory
-- may come at any time.
abbrev pub Gives : code_meaning.Meaning → Meaning → Type 0
Gives (meanings.Boolean test) (OfBoolean wanted) = GivesBoolean test wanted
Gives (meanings.Boolean test) (OfSequence wanted) = ⊥
Gives (meanings.Boolean test) (OfProperty wanted) = ⊥
Gives (meanings.Sequence sequence) (OfBoolean wanted) = ⊥
Gives (meanings.Sequence sequence) (OfSequence wanted) = GivesSequence sequence wanted
Gives (meanings.Sequence sequence) (OfProperty wanted) = ⊥
Gives (meanings.Property formula) (OfBoolean wanted) = ⊥
Gives (meanings.Property formula) (OfSequence wanted) = ⊥
Gives (meanings.Property formula) (OfProperty wanted) = GivesFormula formula wanted

-- it is a Boolean, and this one
abbrev pub IsTest : Boolean → Meaning → Type 0
IsTest test (OfBoolean wanted) = test ≡ wanted
IsTest test (OfSequence wanted) = ⊥
IsTest test (OfProperty wanted) = ⊥

-- the same where its tree is built later
abbrev pub GivesSense : code_sense.Sense → Meaning → Type 0
GivesSense (senses.Path path) wanted = IsTest (bits_meaning path.reference) wanted
GivesSense (senses.Literal kind value) wanted = IsTest (literal_meaning kind value) wanted
GivesSense (senses.Declared meaning path) wanted = Gives meaning wanted
GivesSense (senses.Built meaning) wanted = Gives meaning wanted

-- what a comparison reads of it
abbrev pub operand_in : code_sense.Sense → Operand
operand_in (senses.Path path) = bits_operand path.reference
operand_in (senses.Literal kind value) = sides.Value value
operand_in (senses.Declared meaning path) = bits_operand path.reference
operand_in (senses.Built meaning) = sides.Value 0

-- an expression that was gone through, in a box, unless memory was refused
abbrev pub BuiltPart : Type 0
BuiltPart = Result (Box Elaborated Global) NoMemory

-- it stands for the wanted one
abbrev pub GivesPart : BuiltPart → Meaning → Type 0
GivesPart (Ok built) wanted = GivesSense built.value.sense wanted
GivesPart (Err refused) wanted = Unit {0}

-- the same of what may be declared: there is one where one is wanted
abbrev pub GivesOption : Option code_meaning.Meaning → Option Meaning → Type 0
GivesOption None None = Unit {0}
GivesOption None (Some _) = ⊥
GivesOption (Some _) None = ⊥
GivesOption (Some meaning) (Some wanted) = Gives meaning wanted

-- the kind of what is built
abbrev pub kind_in : code_meaning.Meaning → ExpressionKind
kind_in (meanings.Boolean test) = kinds.Boolean
kind_in (meanings.Sequence sequence) = kinds.Sequence
kind_in (meanings.Property formula) = kinds.Property

-- declared names, each with what is built for it
abbrev pub Declared : Type 0
Declared = BTreeMap (Bor (List ℕ)) code_meaning.Meaning

-- what is built for a text, if it is declared
abbrev pub built_at : Declared → List ℕ → Option code_meaning.Meaning
built_at scope text = get_by (λ key. slice_cmp nat_cmp text key.now) scope

-- declared names stand for these: at each text there is what it was declared as, if it was
abbrev pub IsScope : Declared → List Named → Type 0
IsScope scope named = (text : List ℕ) → GivesOption (built_at scope text) (declared_meaning named text)

-- a default clock where one is wanted, or that it is too large
abbrev pub GivesClock : Option (Result Boolean SugarFault) → Option Boolean → Type 0
GivesClock None None = Unit {0}
GivesClock None (Some _) = ⊥
GivesClock (Some _) None = ⊥
GivesClock (Some clock) (Some wanted) = GivesBoolean clock wanted
