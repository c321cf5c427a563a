-- The names of what is strange: fewer by one, more by one, and fewer by all that an origin gave.
use Rattle.std.proofs.Common.{◌≡◌, ◌∙◌, ℕ, suc, zero, ◌<◌, Bool, true, false, cond, List, [], ◌∷◌, ◌++◌, ap, arith, filter, get_or, length, refl, sym, true≢false}
use Rattle.std.specs.Prelude.{All, AllPairs, ◌||◌, ◌&&◌, nat_lt, not}
use Rattle.std.specs.List.{list_any}
use Rattle.std.proofs.lemmas.Bool.{or_parts}
use Rattle.std.proofs.lemmas.Map.Views.{any-filter_same}
use Rattle.std.proofs.Math.Bool.{and-true}
use Rattle.wb_names.specs.Orders.{same_name}
use Rattle.wb_names.specs.Values.{DrawopValue, NameValue}
use Rattle.wb_names.proofs.Orders.{same_name-is, same_name-itself}
use Rattle.wb_keeper.specs.Keeper.{holds}
use Rattle.wb_judge.specs.Laws.{StandOnce}
use Rattle.wb_judge.specs.Shares.{Shares}
use Rattle.wb_judge.specs.Strange.{given_by, has_name, is_given_by, names_of, with_given}
use Rattle.wb_judge.specs.declared.origin.Origin.{Origin}
use Rattle.wb_judge.specs.declared.strange.Given.{Given}
use Rattle.wb_judging.specs.Recording.{named}
use Rattle.wb_judging.proofs.Histories.{Of, of_both, of_filter, of_so}

-- ---- lists of names

abbrev pub has : NameValue → List NameValue → Bool
has n ns = list_any (λ m. same_name m n) ns

abbrev pub less : NameValue → List NameValue → List NameValue
less n ns = filter (λ m. not (same_name m n)) ns

abbrev pub more : ℕ → NameValue → List NameValue → List NameValue
more most n ns = cond (has n ns) ns (cond (nat_lt (length ns) most) (ns ++ n ∷ []) ns)

abbrev pub less_all : List DrawopValue → List NameValue → List NameValue
less_all [] ns = ns
less_all (d ∷ ds) ns = less_all ds (less d.name ns)

-- no name stands twice
abbrev pub Once : List NameValue → Type 0
Once [] = Unit {0}
Once (n ∷ ns) = Of (λ (m : NameValue). same_name n m ≡ false) ns × Once ns

-- ---- names of drawops that no known origin gave

pub has_is : (n : NameValue) (given : List Given) → has_name n given ≡ has n (names_of given)
has_is n [] = refl
has_is n (g ∷ given) = ap (λ (b : Bool). same_name g.name n || b) (has_is n given)

pub length_is : (given : List Given) → length (names_of given) ≡ length given
length_is [] = refl
length_is (g ∷ given) = ap suc (length_is given)

names_last : (given : List Given) (g : Given) → names_of (given ++ g ∷ []) ≡ names_of given ++ g.name ∷ []
names_last [] g = refl
names_last (x ∷ given) g = ap (λ (ns : List NameValue). x.name ∷ ns) (names_last given g)

pub names_less : (n : NameValue) (given : List Given) → names_of (filter (λ (g : Given). not (same_name g.name n)) given) ≡ less n (names_of given)
names_less n [] = refl
names_less n (g ∷ given) = by (same_name g.name n) (names_less n given) where
  rest : List Given
  rest = filter (λ (g : Given). not (same_name g.name n)) given

  by : (b : Bool) → names_of rest ≡ less n (names_of given) → names_of (cond (not b) (g ∷ rest) rest) ≡ cond (not b) (g.name ∷ less n (names_of given)) (less n (names_of given))
  by true e = e
  by false e = ap (λ (ns : List NameValue). g.name ∷ ns) e

pub names_more : (g : Given) (s : Shares) → names_of (with_given g s).given ≡ more s.most g.name (names_of s.given)
unfolding with_given
names_more g s =
    by (has_name g.name s.given) (nat_lt (length s.given) s.most)
    ∙ ap (λ (b : Bool). cond b ns (cond (nat_lt (length s.given) s.most) (ns ++ g.name ∷ []) ns)) (has_is g.name s.given)
    ∙ ap (λ (n : ℕ). cond (has g.name ns) ns (cond (nat_lt n s.most) (ns ++ g.name ∷ []) ns)) (sym (length_is s.given)) where
      ns : List NameValue
      ns = names_of s.given

      by : (b c : Bool) → names_of (cond b s (record s { given = cond c (s.given ++ g ∷ []) s.given })).given ≡ cond b ns (cond c (ns ++ g.name ∷ []) ns)
      by true c = refl
      by false true = names_last s.given g
      by false false = refl

-- ---- a name that is not there

pub none_has : (n : NameValue) (ns : List NameValue) → has n ns ≡ false → Of (λ (m : NameValue). same_name m n ≡ false) ns
none_has n [] e = tt
none_has n (m ∷ ns) e = let parts = or_parts (same_name m n) (has n ns) e in (parts.0, none_has n ns parts.1)

pub less_none : (n : NameValue) (ns : List NameValue) → Of (λ (m : NameValue). same_name m n ≡ false) ns → less n ns ≡ ns
less_none n [] none = refl
less_none n (m ∷ ns) none =
    ap (λ (b : Bool). cond (not b) (m ∷ less n ns) (less n ns)) none.0 ∙ ap (λ (ms : List NameValue). m ∷ ms) (less_none n ns none.1)

none_is_has : (n : NameValue) (ns : List NameValue) → Of (λ (m : NameValue). same_name m n ≡ false) ns → has n ns ≡ false
none_is_has n [] none = refl
none_is_has n (m ∷ ns) none = ap (λ (b : Bool). b || has n ns) none.0 ∙ none_is_has n ns none.1

-- a name that is not held is none of names that are
pub not_held_none : (h : List DrawopValue) (n : NameValue) (ns : List NameValue) → holds h n ≡ false → Of (λ (m : NameValue). holds h m ≡ true) ns
    → Of (λ (m : NameValue). same_name m n ≡ false) ns
not_held_none h n ns absent each = of_so (λ (m : NameValue). holds h m ≡ true) (λ (m : NameValue). same_name m n ≡ false) ns so each where
  so : (m : NameValue) → holds h m ≡ true → same_name m n ≡ false
  so m is = by (same_name m n) refl where
    by : (b : Bool) → same_name m n ≡ b → b ≡ false
    by false e = refl
    by true e = absurd (true≢false (sym is ∙ ap (λ (x : NameValue). holds h x) (same_name-is m n e) ∙ absent))

pub not_held_has : (h : List DrawopValue) (n : NameValue) (ns : List NameValue) → holds h n ≡ false → Of (λ (m : NameValue). holds h m ≡ true) ns → has n ns ≡ false
not_held_has h n ns absent each = none_is_has n ns (not_held_none h n ns absent each)

-- ---- names stay once

pub once_filter : (p : NameValue → Bool) (ns : List NameValue) → Once ns → Once (filter p ns)
once_filter p [] once = tt
once_filter p (n ∷ ns) once = by (p n) (once_filter p ns once.1) where
  by : (b : Bool) → Once (filter p ns) → Once (cond b (n ∷ filter p ns) (filter p ns))
  by true rest = (of_filter (λ (m : NameValue). same_name n m ≡ false) p ns once.0, rest)
  by false rest = rest

pub once_last : (ns : List NameValue) (n : NameValue) → Once ns → Of (λ (m : NameValue). same_name m n ≡ false) ns → Once (ns ++ n ∷ [])
once_last [] n once none = (tt, tt)
once_last (m ∷ ns) n once none = (of_both (λ (x : NameValue). same_name m x ≡ false) ns (n ∷ []) once.0 (none.0, tt), once_last ns n once.1 none.1)

head_apart : (g : Given) (given : List Given) → AllPairs (λ (a b : Given). same_name a.name b.name ≡ false) (g ∷ given) → Of (λ (m : NameValue). same_name g.name m ≡ false) (names_of given)
head_apart g [] apart = tt
head_apart g (x ∷ given) apart = (apart 0 1 x (omega arith) (omega arith), head_apart g given (λ i j d lt within. by i j d lt within)) where
  by : (i j : ℕ) (d : Given) → i < j → j < length (g ∷ given) → same_name (get_or (g ∷ given) i d).name (get_or (g ∷ given) j d).name ≡ false
  by i zero d lt within = absurd (omega arith)
  by zero (suc j) d lt within = apart 0 (suc (suc j)) d (omega arith) (omega arith)
  by (suc i) (suc j) d lt within = apart (suc (suc i)) (suc (suc j)) d (omega arith) (omega arith)

pub once_given : (given : List Given) → StandOnce given → Once (names_of given)
once_given [] once = tt
once_given (g ∷ given) once = (head_apart g given once, once_given given (λ i j d lt within. once (suc i) (suc j) d (omega arith) (omega arith)))

pub each_given : (P : NameValue → Type 0) (given : List Given) → All (λ (g : Given). P g.name) given → Of P (names_of given)
each_given P [] all = tt
each_given P (g ∷ given) all = (all 0 g (omega arith), each_given P given (λ k d within. all (suc k) d (omega arith)))

-- ---- what an origin gave, by the names of drawops

flipped : (m n : NameValue) → same_name m n ≡ same_name n m
flipped m n = by (same_name m n) (same_name n m) refl refl where
  by : (b c : Bool) → same_name m n ≡ b → same_name n m ≡ c → b ≡ c
  by true true e f = refl
  by false false e f = refl
  by true false e f = absurd (true≢false (sym (same_name-itself n) ∙ ap (λ (x : NameValue). same_name n x) (sym (same_name-is m n e)) ∙ f))
  by false true e f = absurd (true≢false (sym (same_name-itself m) ∙ ap (λ (x : NameValue). same_name m x) (sym (same_name-is n m f)) ∙ e))

abbrev is_one : List DrawopValue → NameValue → Bool
is_one ds m = list_any (λ (d : DrawopValue). same_name m d.name) ds

filter_both : (n : NameValue) (ds : List DrawopValue) (ns : List NameValue)
    → filter (λ (m : NameValue). not (is_one ds m)) (less n ns) ≡ filter (λ (m : NameValue). not (same_name m n || is_one ds m)) ns
filter_both n ds [] = refl
filter_both n ds (m ∷ ns) = by (same_name m n) (filter_both n ds ns) where
  rest : List NameValue
  rest = filter (λ (m : NameValue). not (same_name m n || is_one ds m)) ns

  by : (b : Bool) → filter (λ (m : NameValue). not (is_one ds m)) (less n ns) ≡ rest
      → filter (λ (m : NameValue). not (is_one ds m)) (cond (not b) (m ∷ less n ns) (less n ns)) ≡ cond (not (b || is_one ds m)) (m ∷ rest) rest
  by true e = e
  by false e = ap (λ (ms : List NameValue). cond (not (is_one ds m)) (m ∷ ms) ms) e

all_stay : (ns : List NameValue) → filter (λ (m : NameValue). true) ns ≡ ns
all_stay [] = refl
all_stay (n ∷ ns) = ap (λ (ms : List NameValue). n ∷ ms) (all_stay ns)

less_all_is : (ds : List DrawopValue) (ns : List NameValue) → less_all ds ns ≡ filter (λ (m : NameValue). not (is_one ds m)) ns
less_all_is [] ns = sym (all_stay ns)
less_all_is (d ∷ ds) ns = less_all_is ds (less d.name ns) ∙ filter_both d.name ds ns

-- the names of what an origin gave have that of one that it gave, and no other
gave_is : (o : Origin) (n : NameValue) (given : List Given) → Of (λ (m : NameValue). same_name n m ≡ false) (names_of given) → list_any (λ (m : NameValue). same_name m n) (given_by o given) ≡ false
gave_is o n [] apart = refl
gave_is o n (g ∷ given) apart = by (is_given_by o g) (gave_is o n given apart.1) where
  by : (b : Bool) → list_any (λ (m : NameValue). same_name m n) (given_by o given) ≡ false → list_any (λ (m : NameValue). same_name m n) (names_of (cond b (g ∷ filter (is_given_by o) given) (filter (is_given_by o) given))) ≡ false
  by true e = ap (λ (b : Bool). b || list_any (λ (m : NameValue). same_name m n) (given_by o given)) (flipped g.name n ∙ apart.0) ∙ e
  by false e = e

abbrev Gave : Origin → List Given → Given → Type 0
Gave o given g = has g.name (given_by o given) ≡ is_given_by o g

gave_more : (o : Origin) (x : Given) (given xs : List Given) → Of (λ (m : NameValue). same_name x.name m ≡ false) (names_of xs) → Of (Gave o given) xs → Of (Gave o (x ∷ given)) xs
gave_more o x given [] apart each = tt
gave_more o x given (g ∷ xs) apart each = (by (is_given_by o x), gave_more o x given xs apart.1 each.1) where
  by : (b : Bool) → has g.name (names_of (cond b (x ∷ filter (is_given_by o) given) (filter (is_given_by o) given))) ≡ is_given_by o g
  by true = ap (λ (b : Bool). b || has g.name (given_by o given)) apart.0 ∙ each.0
  by false = each.0

gave_each : (o : Origin) (given : List Given) → Once (names_of given) → Of (Gave o given) given
gave_each o [] once = tt
gave_each o (x ∷ given) once = (by (is_given_by o x) refl, gave_more o x given given once.0 (gave_each o given once.1)) where
  by : (b : Bool) → is_given_by o x ≡ b → has x.name (names_of (cond b (x ∷ filter (is_given_by o) given) (filter (is_given_by o) given))) ≡ b
  by true e = ap (λ (b : Bool). b || has x.name (given_by o given)) (same_name-itself x.name)
  by false e = gave_is o x.name given once.0

-- a name that is held is that of one of the named drawops if it is among the names
one_named : (names : List NameValue) (h : List DrawopValue) (m : NameValue) → holds h m ≡ true → is_one (named names h) m ≡ has m names
one_named names h m held =
    any-filter_same (λ (d : DrawopValue). same_name m d.name) (λ (d : DrawopValue). has d.name names) (has m names)
    (λ d is. ap (λ (x : NameValue). has x names) (sym (same_name-is m d.name is))) h
    ∙ ap (λ (b : Bool). has m names && b) (one_held h ∙ held)
    ∙ and-true (has m names) where
      one_held : (h : List DrawopValue) → is_one h m ≡ holds h m
      one_held [] = refl
      one_held (d ∷ h) = ap (λ (b : Bool). b || is_one h m) (flipped m d.name) ∙ ap (λ (b : Bool). same_name d.name m || b) (one_held h)

filter_as : (p : Given → Bool) (q : NameValue → Bool) (given : List Given) → Of (λ (g : Given). q g.name ≡ p g) given
    → names_of (filter (λ (g : Given). not (p g)) given) ≡ filter (λ (m : NameValue). not (q m)) (names_of given)
filter_as p q [] each = refl
filter_as p q (g ∷ given) each = by (p g) (filter_as p q given each.1) ∙ ap (λ (b : Bool). cond (not b) (g.name ∷ rest) rest) (sym each.0) where
  rest : List NameValue
  rest = filter (λ (m : NameValue). not (q m)) (names_of given)

  by : (b : Bool) → names_of (filter (λ (g : Given). not (p g)) given) ≡ rest
      → names_of (cond (not b) (g ∷ filter (λ (g : Given). not (p g)) given) (filter (λ (g : Given). not (p g)) given)) ≡ cond (not b) (g.name ∷ rest) rest
  by true e = e
  by false e = ap (λ (ns : List NameValue). g.name ∷ ns) e

-- what an origin gave is strange no more: so it is if the drawops that have these names are recorded as a member's
pub freed_names : (o : Origin) (h : List DrawopValue) (given : List Given) → Of (λ (m : NameValue). holds h m ≡ true) (names_of given) → Once (names_of given)
    → names_of (filter (λ (g : Given). not (is_given_by o g)) given) ≡ less_all (named (given_by o given) h) (names_of given)
freed_names o h given held once =
    filter_as (is_given_by o) (is_one (named (given_by o given) h)) given (each given held (gave_each o given once))
    ∙ sym (less_all_is (named (given_by o given) h) (names_of given)) where
      each : (xs : List Given) → Of (λ (m : NameValue). holds h m ≡ true) (names_of xs) → Of (Gave o given) xs → Of (λ (g : Given). is_one (named (given_by o given) h) g.name ≡ is_given_by o g) xs
      each [] held gave = tt
      each (g ∷ xs) held gave = (one_named (given_by o given) h g.name held.0 ∙ gave.0, each xs held.1 gave.1)

-- no drawop has one of no names
pub named_none : (held : List DrawopValue) → named [] held ≡ []
named_none [] = refl
named_none (d ∷ held) = named_none held
