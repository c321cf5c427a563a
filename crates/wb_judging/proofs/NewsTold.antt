-- What news changes of a judge and what it leaves as it was, and which events it gives.
use Rattle.std.proofs.Common.{◌≡◌, ◌∙◌, ℕ, Bool, true, false, cond, List, [], ◌∷◌, ◌++◌, ap, filter, refl, sym, true≢false}
use Rattle.std.proofs.lemmas.List.Elements.{All-cons, All-nil}
use Rattle.std.proofs.lemmas.Map.Views.{any-filter_same}
use Rattle.std.proofs.lemmas.Option.{same_Some}
use Rattle.std.specs.List.{find, list_any}
use Rattle.std.specs.Prelude.{All, Option, None, Some, nat_eq, not}
use Rattle.wb_judge.specs.Judge.{Judge}
use Rattle.wb_judge.specs.Laws.{Leaves, Step, Tells, after_steps, moments_of}
use Rattle.wb_judge.specs.Origins.{same_origin}
use Rattle.wb_judge.specs.Others.{other_of}
use Rattle.wb_judge.specs.declared.known.KnownOrigin.{KnownOrigin}
use Rattle.wb_judge.specs.declared.origin.Origin.{Origin}
use Rattle.wb_judge.specs.declared.others.Other.{Other}
use Rattle.wb_judge.proofs.Sameness.{same_itself, same_origins}
use Rattle.wb_judging.specs.Laws.{is_record, is_send, sends_in}
use Rattle.wb_judging.specs.News.{Day, Garbled, Gone, LeavesOrigin, News, Nothing, after_news, is_day, news_events}
use Rattle.wb_judging.specs.declared.event.Event.{Event}
use Rattle.wb_judging.specs.declared.event.Event.TheVariants.{NoDatagram}

-- ---- what it leaves as it was

-- our number, our reports, what is strange, and whether somebody has our number too
pub record Keeps (j k : Judge) : Type 0 where
  pub me : k.me ≡ j.me
  pub own : k.own ≡ j.own
  pub strange : k.strange ≡ j.strange
  pub twin : k.has_twin ≡ j.has_twin

pub news_keeps : (now : ℕ) (news : News) (j : Judge) → Keeps j (after_news now news j)
news_keeps now Nothing j = record { me = refl; own = refl; strange = refl; twin = refl }
news_keeps now Garbled j = record { me = refl; own = refl; strange = refl; twin = refl }
news_keeps now (Day wall) j = record { me = refl; own = refl; strange = refl; twin = refl }
news_keeps now (Gone o) j = record { me = refl; own = refl; strange = refl; twin = refl }

pub clock_stays : (now : ℕ) (news : News) (j : Judge) → is_day news ≡ false → (after_news now news j).clock ≡ j.clock
clock_stays now Nothing j other = refl
clock_stays now Garbled j other = refl
clock_stays now (Day wall) j other = absurd (true≢false other)
clock_stays now (Gone o) j other = refl

-- ---- who is gone by it

pub leaves_others : (o : Origin) (news : News) → ((p : Origin) → news ≡ Gone p → same_origin p o ≡ false) → LeavesOrigin o news
leaves_others o Nothing other = tt
leaves_others o Garbled other = tt
leaves_others o (Day wall) other = tt
leaves_others o (Gone p) other = other p refl

other_origin : (p o q : Origin) → same_origin p o ≡ false → same_origin q o ≡ true → not (same_origin q p) ≡ true
other_origin p o q apart at = by (same_origin q p) refl where
  by : (b : Bool) → same_origin q p ≡ b → not b ≡ true
  by true is = absurd (true≢false (sym (same_itself o) ∙ ap (λ (x : Origin). same_origin x o) (sym (same_origins q o at) ∙ same_origins q p is) ∙ apart))
  by false is = refl

-- Of what is known at an origin a test says the same, if nobody there is gone.
pub known_stays : (o : Origin) (test : KnownOrigin → Bool) → ((k : KnownOrigin) → test k ≡ true → same_origin k.origin o ≡ true) → (now : ℕ) (news : News) (j : Judge) → LeavesOrigin o news
    → list_any test (after_news now news j).known ≡ list_any test j.known
known_stays o test there now Nothing j leaves = refl
known_stays o test there now Garbled j leaves = refl
known_stays o test there now (Day wall) j leaves = refl
known_stays o test there now (Gone p) j leaves =
    any-filter_same test (λ (k : KnownOrigin). not (same_origin k.origin p)) true (λ (k : KnownOrigin) is. other_origin p o k.origin leaves (there k is)) j.known

-- who is found first stays, if it is not taken out
found_still : (q p : Other → Bool) (x : Other) (xs : List Other) → find q xs ≡ Some x → p x ≡ true → find q (filter p xs) ≡ Some x
found_still q p x [] found keeps = found
found_still q p x (y ∷ ys) found keeps = by (q y) refl (p y) refl found (found_still q p x ys) where
  by : (b : Bool) → q y ≡ b → (c : Bool) → p y ≡ c → cond b (Some y) (find q ys) ≡ Some x → (find q ys ≡ Some x → p x ≡ true → find q (filter p ys) ≡ Some x) → find q (cond c (y ∷ filter p ys) (filter p ys)) ≡ Some x
  by true is true at e rest = ap (λ (d : Bool). cond d (Some y) (find q (filter p ys))) is ∙ e
  by true is false at e rest = absurd (true≢false (sym keeps ∙ ap p (sym (same_Some y x e)) ∙ at))
  by false is true at e rest = ap (λ (d : Bool). cond d (Some y) (find q (filter p ys))) is ∙ rest e keeps
  by false is false at e rest = rest e keeps

-- What was heard of a number there passes a test as before.
pub heard_stays : (o : Origin) (number : ℕ) (test : Option Other → Bool) → test None ≡ false → ((x : Other) → test (Some x) ≡ true → same_origin x.origin o ≡ true) → (now : ℕ) (news : News) (j : Judge) → LeavesOrigin o news
    → test (other_of number j.others) ≡ true → test (other_of number (after_news now news j).others) ≡ true
heard_stays o number test none there now Nothing j leaves e = e
heard_stays o number test none there now Garbled j leaves e = e
heard_stays o number test none there now (Day wall) j leaves e = e
heard_stays o number test none there now (Gone p) j leaves e = by (other_of number j.others) refl e where
  by : (x : Option Other) → other_of number j.others ≡ x → test x ≡ true → test (other_of number (filter (λ x. not (same_origin x.origin p)) j.others)) ≡ true
  by None is f = absurd (true≢false (sym f ∙ none))
  by (Some x) is f = ap test (found_still (λ (y : Other). nat_eq y.number number) (λ (y : Other). not (same_origin y.origin p)) x j.others is (other_origin p o x.origin leaves (there x f))) ∙ f

-- ---- its events

-- They are neither recorded nor sent.
pub record AreAside (events : List Event) : Type 0 where
  pub unrecorded : All (λ (e : Event). is_record e ≡ false) events
  pub unsent : All (λ (e : Event). is_send e ≡ false) events
  pub sends : sends_in events ≡ []

none_aside : AreAside []
none_aside = record { unrecorded = All-nil (λ (e : Event). is_record e ≡ false); unsent = All-nil (λ (e : Event). is_send e ≡ false); sends = refl }

no_datagram_aside : AreAside (NoDatagram ∷ [])
no_datagram_aside = record {
  unrecorded = All-cons (λ (e : Event). is_record e ≡ false) NoDatagram [] refl none_aside.unrecorded;
  unsent = All-cons (λ (e : Event). is_send e ≡ false) NoDatagram [] refl none_aside.unsent;
  sends = refl;
}

pub news_aside : (news : News) → AreAside (news_events news)
news_aside Nothing = none_aside
news_aside Garbled = no_datagram_aside
news_aside (Day wall) = none_aside
news_aside (Gone o) = none_aside

-- ---- its steps

-- as steps of a judge
abbrev pub news_steps : ℕ → News → List Step
news_steps now (Day wall) = Tells (record { wall = wall; at = now }) ∷ []
news_steps now (Gone o) = Leaves o ∷ []
news_steps now news = []

pub news_judged : (now : ℕ) (news : News) (j : Judge) → after_steps (news_steps now news) j ≡ after_news now news j
news_judged now Nothing j = refl
news_judged now Garbled j = refl
news_judged now (Day wall) j = refl
news_judged now (Gone o) j = refl

-- No datagram comes by them.
pub nothing_comes : (now : ℕ) (news : News) (more : List Step) → moments_of (news_steps now news ++ more) ≡ moments_of more
nothing_comes now Nothing more = refl
nothing_comes now Garbled more = refl
nothing_comes now (Day wall) more = refl
nothing_comes now (Gone o) more = refl
