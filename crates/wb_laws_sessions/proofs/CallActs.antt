-- Which act of a member a call is, or that it is none: what is so of acts is so of calls.
use Rattle.std.proofs.Common.{◌≡◌, Bool, true, false, cond, List, [], ◌∷◌, refl, subst, sym}
use Rattle.std.specs.Prelude.{All, Contains}
use Rattle.std.proofs.lemmas.Bool.{not-true, or_parts}
use Rattle.std.proofs.lemmas.List.Elements.{All-nil, All-cons, All-take, All-weaker, All-contains_itself}
use Rattle.wb_names.specs.History.{HoldsName}
use Rattle.wb_names.specs.Values.{MarkValue, NameValue}
use Rattle.wb_names.specs.declared.name.PageId.{PageId}
use Rattle.wb_names.proofs.Orders.{name_parts}
use Rattle.wb_codec.specs.declared.datagram.Datagram.{Datagram}
use Rattle.wb_recovery.specs.Events.{timers_of}
use Rattle.wb_keeper.specs.GivingUp.{is_timed}
use Rattle.wb_keeper.specs.Hearing.{marks_heard}
use Rattle.wb_keeper.specs.Keeper.{holds}
use Rattle.wb_keeper.specs.Missing.{IsWanted}
use Rattle.wb_keeper.proofs.FirstWanted.{first_are_wanted}
use Rattle.wb_keeper.proofs.KeptCalls.{holds_not}
use Rattle.wb_member.specs.Calls.{after_call, sent_by_call}
use Rattle.wb_member.specs.Members.{Member, Act, Draws, Takes, Hears, SetsDelay, SetsConstants, Misses, GivesUp, Ticks, Reports, after, sends}
use Rattle.wb_member.specs.Opened.{Opened, answered, doing, events, has_room_for, heard, may_ask, present, wanted_of}
use Rattle.wb_member.specs.Random.{word_of}
use Rattle.wb_member.specs.declared.calls.Call.{Call}
use Rattle.wb_member.specs.declared.calls.Call.TheVariants as calls

-- A member begins to miss only what it does not hold, takes only what arrived, and draws nothing.
abbrev pub IsCareful : Act → Member → Type 0
IsCareful (Draws page time op) m = ⊥
IsCareful (Misses now names words) m = All (λ n. holds m.held n ≡ false) names
IsCareful (Takes now batch order) m = All (λ d. Contains batch d) order
IsCareful act m = Unit {0}

pub all_from : {X : Type 0} (P : X → Type 0) (xs : List X) → ((x : X) → Contains xs x → P x) → All P xs
all_from P xs f = All-weaker (Contains xs) P f xs (All-contains_itself xs)

module _ (host : Opened) where
  -- what it wants of a page it does not hold
  wanted_lacking : (page : PageId) → All (λ n. holds host.is.held n ≡ false) (wanted_of page host)
  wanted_lacking page =
      let marks = marks_heard host.is.number host.is.calls page in
      let w = first_are_wanted host.is.constants (events host) host.is.held page marks in
      let all : All (λ n. holds host.is.held n ≡ false) w.0 = all_from (λ n. holds host.is.held n ≡ false) w.0 (λ n c. lacks marks n ((w.1.members n).0 c)) in
      subst (All (λ n. holds host.is.held n ≡ false)) (sym w.2) (All-take (λ n. holds host.is.held n ≡ false) _ w.0 all)
    where
      lacks : (marks : List MarkValue) (n : NameValue) → IsWanted (timers_of host.is.constants (events host)) host.is.held page marks n → holds host.is.held n ≡ false
      lacks marks n want = holds_not host.is.held n (λ h. want.missing.not_held (subst (HoldsName host.is.held) (name_parts _ _ _ _ _ _ refl want.on_page refl) h))

  -- nor does it hold what it may ask for
  asked_lacking : (name : NameValue) → may_ask name host ≡ true → All (λ n. holds host.is.held n ≡ false) (name ∷ [])
  asked_lacking name e = All-cons (λ n. holds host.is.held n ≡ false) name [] (or_parts (holds host.is.held name) (is_timed (timers_of host.is.constants (events host)) name) (not-true _ e)).0 (All-nil (λ n. holds host.is.held n ≡ false))

module _ (R : Member → Member → List Datagram → Type 0) (acts : (act : Act) (m : Member) → IsCareful act m → R m (after act m) (sends act m)) (idles : (m : Member) → R m m []) where
  pub call_acts : (call : Call) (host : Opened) → R host.is (after_call call host).is (sent_by_call call host)
  call_acts (calls.Tick now) host = acts (Ticks now _) host.is tt
  call_acts (calls.Hear v) host = by (has_room_for v host) where
    by : (b : Bool) → R host.is (cond b (heard v host) host).is (cond b (answered v host) [])
    by true = acts (Hears _ v _) host.is tt
    by false = idles host.is
  call_acts (calls.SetDelay source micros) host = acts (SetsDelay source micros) host.is tt
  call_acts (calls.Tune constants) host = acts (SetsConstants constants) host.is tt
  call_acts (calls.Look page) host = acts (Misses _ (wanted_of page host) _) host.is (wanted_lacking host page)
  call_acts (calls.Session page) host = acts (Reports _ page) host.is tt
  call_acts (calls.Ask name) host = by (may_ask name host) refl where
    by : (b : Bool) → may_ask name host ≡ b → R host.is (cond b (doing (Misses (present host) (name ∷ []) (word_of host.random ∷ [])) 1 host) host).is []
    by true e = acts (Misses (present host) (name ∷ []) (word_of host.random ∷ [])) host.is (asked_lacking host name e)
    by false e = idles host.is
  call_acts (calls.Stop name) host = acts (GivesUp (present host) name) host.is tt
