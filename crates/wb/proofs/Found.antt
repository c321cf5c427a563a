-- What a parse found.
use Rattle.std.proofs.Common.{◌≡◌, ◌⊎◌, ℕ, List, [], true, false, is_some, inl, inr, ap, refl, sym, subst, ◌∙◌, Option, Some, None, Result, Ok, Err, IfOk, codes, slice_index, arith, ◌≢◌}
use Rattle.std.proofs.lemmas.Result.{MatchResult-at_ok}
use Rattle.std.specs.Prelude.{option_map}
use Rattle.std.specs.Option.{UnwrapsOrElse}
use Rattle.std.specs.Str.Parse.{ParsesUnsigned}
use Rattle.clap.specs.Words.{ReadsOne, TriesOne, one_of, HasKind, IsAmong, Kinds, kind_of, App, Row, Text, fault_of, subcommand_of, is_simple, is_simple_and_free}
use Rattle.clap.specs.declared.error.Error.{Error}
use Rattle.clap.specs.declared.error.kind.ErrorKind.{ErrorKind}
use Rattle.clap.specs.declared.error.kind.ErrorKind.TheVariants.{OutOfMemory}
use Rattle.wb_recovery.specs.declared.tuning.Tuning.{Tuning}
use Rattle.wb.specs.CommandLine.{AsksTask, IsAsked, IsTaskFound, IsNumberIn, IsTuningIn, filter_name, SaysNumber, SaysTuning, command_line}
use Rattle.wb.specs.declared.command.Task.{Task}
use Rattle.wb.specs.declared.command.Task.TheVariants as tasks
use Rattle.wb_filters.specs.declared.filtering.Direction.{Direction}
use Rattle.wb_filters.specs.declared.filtering.Direction.TheVariants.{Hex, Words}

-- the name and the rows of what a map gives
pub joined : {X Y Z : Type 0} (f : X → Y) (g : X → Z) (o : Option X) (y : Y) (z : Z)
    → Some y ≡ option_map f o → Some z ≡ option_map (λ (p : Y × Z). p.1) (option_map {U = Y × Z} (λ (x : X). (f x, g x)) o)
    → option_map {U = Y × Z} (λ (x : X). (f x, g x)) o ≡ Some (y, z)
joined f g None y z a b = cc
joined f g (Some x) y z a b = cc

pub at_ok : {X E : Type 0} (P : X → Type 0) (r : Result X E) (x : X) → r ≡ Ok x → IfOk r P → P x
at_ok P r x is h = MatchResult-at_ok P _ x is h

pub command_line_is_simple : is_simple command_line ≡ true
unfolding command_line
command_line_is_simple = refl

pub command_line_is_free : is_simple_and_free command_line ≡ true
unfolding command_line
command_line_is_free = refl

-- What was found of a command that is the program's is what the words ask for.
pub asks : (a : App) (words : List Text) (found : Option (Text × List Row)) → a ≡ command_line
    → (is_simple_and_free a ≡ true → fault_of a words ≡ []) → (is_simple a ≡ true → found ≡ subcommand_of a words)
    → (task : Task) → IsTaskFound found task → AsksTask words task
asks a words found is free simple task h =
    let none : fault_of command_line words ≡ [] = subst (λ (b : App). is_simple_and_free b ≡ true → fault_of b words ≡ []) is free command_line_is_free in
    let same : found ≡ subcommand_of command_line words = subst (λ (b : App). is_simple b ≡ true → found ≡ subcommand_of b words) is simple command_line_is_simple in
    (none, subst (λ (o : Option (Text × List Row)). IsTaskFound o task) same h)

pub asks_nothing : (a : App) (words : List Text) (found : Option (Text × List Row)) → a ≡ command_line
    → (is_simple a ≡ true → found ≡ subcommand_of a words)
    → ((task : Task) → IsTaskFound found task → ⊥) → (task : Task) → AsksTask words task → ⊥
asks_nothing a words found is simple none task h =
    let same : found ≡ subcommand_of command_line words = subst (λ (b : App). is_simple b ≡ true → found ≡ subcommand_of b words) is simple command_line_is_simple in
    none task (subst (λ (o : Option (Text × List Row)). IsTaskFound o task) (sym same) h.1)

-- no command was found
pub none_found : {X : Type 0} (f : X → Text × List Row) (o : Option X) → false ≡ is_some o → (task : Task) → IsTaskFound (option_map f o) task → ⊥
none_found f None e task h = h
none_found f (Some x) e task h = cc

none_among : (kinds : Kinds) (k : ErrorKind) → kinds ≡ [] → IsAmong k kinds → ⊥
none_among kinds k none among = subst (λ (ks : Kinds). IsAmong k ks) none among

-- The parser refuses only words that ask for nothing.
pub refuses : (a : App) (words : List Text) (e : Error) → a ≡ command_line
    → (is_simple_and_free a ≡ true → HasKind (fault_of a words) e)
    → (kind_of e ≡ OutOfMemory) ⊎ ((task : Task) → AsksTask words task → ⊥)
refuses a words e is free =
    elim (subst (λ (b : App). is_simple_and_free b ≡ true → HasKind (fault_of b words) e) is free command_line_is_free) [
      | inl memory ↦ inl memory
      | inr among ↦ inr (λ task h. none_among (fault_of command_line words) (kind_of e) h.0 among)
    ]

-- ---- options

-- the number that the getter reads
pub number_in : {E : Type 0} (G : List ℕ → Result ℕ E → Type 0) (o : Option Text) (r : Option ℕ)
    → ((t : Text) (x : Result ℕ E) → G t x → ParsesUnsigned 32 10 t x)
    → (o ≡ None → r ≡ None) → ((t : Text) → o ≡ Some t → ReadsOne G t r) → IsNumberIn o r
number_in G None r parses none some = none refl
number_in {E} G (Some t) r parses none some = go r (some t refl)
  where
    go : (s : Option ℕ) → ReadsOne G t s → SaysNumber t s
    go (Some n) h = parses t (Ok n) h
    go None h = parses t (Err h.0) h.1

-- the constants that the getter reads
pub tuning_in : {E : Type 0} (G : List ℕ → Result Tuning E → Type 0) (o : Option Text) (r : Option Tuning) (t : Tuning)
    → ((u : Text) (v : Tuning) → G u (Ok v) → SaysTuning u v)
    → (o ≡ None → ◌≡◌ {A = Result (Option Tuning) E} (Ok r) (Ok None)) → ((u : Text) → o ≡ Some u → TriesOne G u (Ok r))
    → UnwrapsOrElse r (λ d. d ≡ record { c1 = 2; c2 = 2; d1 = 1; d2 = 1 }) t → IsTuningIn o t
tuning_in G None None t says none some is = is
tuning_in G None (Some v) t says none some is = let bad = none refl in cc
tuning_in G (Some u) None t says none some is = absurd (some u refl)
tuning_in G (Some u) (Some v) t says none some is = subst (SaysTuning u) (sym is) (says u v (some u refl))

-- no constants are read, so none are there
pub no_tuning_in : {E : Type 0} (G : List ℕ → Result Tuning E → Type 0) (o : Option Text) (e : E) (t : Tuning)
    → ((u : Text) (v : Tuning) → G u (Err e) → SaysTuning u v → ⊥)
    → (o ≡ None → ◌≡◌ {A = Result (Option Tuning) E} (Err e) (Ok None)) → ((u : Text) → o ≡ Some u → TriesOne G u (Err e))
    → IsTuningIn o t → ⊥
no_tuning_in G None e t says none some h = let bad = none refl in cc
no_tuning_in G (Some u) e t says none some h = says u t (some u refl) h

-- ---- commands

first_differs : (a b : Text) (m n : ℕ) → slice_index a 0 ≡ m → slice_index b 0 ≡ n → (m ≡ n → ⊥) → a ≡ b → ⊥
first_differs a b m n one other apart e = apart (sym one ∙ ap (λ (t : Text). slice_index t 0) e ∙ other)

host_is_no_direction : (d : Direction) → codes "host" ≡ filter_name d → ⊥
host_is_no_direction Hex e = let bad = ap (λ (t : Text). slice_index t 1) e in absurd (omega (arith, bad))
host_is_no_direction Words e = first_differs (codes "host") (codes "words") 104 119 refl refl (λ n. absurd (omega (arith, n))) e

-- What is no command of a host with constants asks for nothing.
pub no_host : (rows : List Row) → ((t : Tuning) → IsTuningIn (one_of (codes "tuning") rows) t → ⊥) → (task : Task) → IsAsked (codes "host") rows task → ⊥
no_host rows none (tasks.Run workers) h = first_differs (codes "host") (codes "run") 104 114 refl refl (λ n. absurd (omega (arith, n))) h.0
no_host rows none tasks.Check h = first_differs (codes "host") (codes "check") 104 99 refl refl (λ n. absurd (omega (arith, n))) h
no_host rows none (tasks.Turn filter) h = host_is_no_direction filter.direction h.0
no_host rows none (tasks.Host t) h = none t h.1

turns_nothing : (name : Text) (d : Direction) → name ≢ codes "hex" → name ≢ codes "words" → name ≡ filter_name d → ⊥
turns_nothing name Hex hex words e = hex e
turns_nothing name Words hex words e = words e

-- another word is no command
pub unnamed : (name : Text) (rows : List Row) → name ≢ codes "run" → name ≢ codes "check" → name ≢ codes "hex" → name ≢ codes "words" → name ≢ codes "host"
    → (task : Task) → IsAsked name rows task → ⊥
unnamed name rows run check hex words host (tasks.Run workers) h = run h.0
unnamed name rows run check hex words host tasks.Check h = check h
unnamed name rows run check hex words host (tasks.Turn filter) h = turns_nothing name filter.direction hex words h.0
unnamed name rows run check hex words host (tasks.Host t) h = host h.0
