-- The sender's loop over the arrivals.
use Rattle.std.proofs.Common.{◌≡◌, ℕ, ◌≤◌, Bool, true, false, true≢false, List, [], ◌∷◌, ◌++◌, length, refl, ap, sym, subst, ◌∙◌, arith, append_assoc, length-append}
use Rattle.std.proofs.lemmas.List.{append-nil}
use mathlib.Core.List.{IsPrefix}
use Rattle.wb_names.specs.Values.{DrawopValue}
use Rattle.wb_feed.proofs.Prefixes.{prefix_self, prefix_trans, prefix_take, take_prefix}
use Rattle.wb_feed.specs.declared.channel.Message.TheVariants.{Take}
use Rattle.wb_feed.specs.declared.channel.ChannelView.{ChannelView}
use Rattle.wb_feed.specs.Inside.Channel.{sends}
use Rattle.wb_feed.specs.Inside.Arriving.{HasArrived, OneArrives}
use Rattle.wb_feed.specs.Inside.Sent.{IsSent}

-- the sender's pass keeps its parts, and what it received
pub arrived_none : {A : Type 0} (gives : A → List DrawopValue → A → Type 0) (most : A → ℕ) (a : A) (was : List DrawopValue) → gives a [] a → HasArrived gives most a was a was
arrived_none gives most a was none = record { more = []; given = none; all = sym (append-nil was); few = omega arith }

-- what a source gives in parts
abbrev pub GivesOn : {A : Type 0} → (A → List DrawopValue → A → Type 0) → Type 0
GivesOn {A} gives = (a b c : A) (ds es : List DrawopValue) → gives a ds b → gives b es c → gives a (ds ++ es) c

pub arrived_end : {A : Type 0} (gives : A → List DrawopValue → A → Type 0) (most : A → ℕ) (a : A) (was : List DrawopValue) (b : A) (arrived : List DrawopValue) (c : A) (arrived' : List DrawopValue) → GivesOn gives
    → HasArrived gives most a was b arrived → gives b [] c → most c ≤ most b → arrived' ≡ arrived → HasArrived gives most a was c arrived'
arrived_end gives most a was b arrived c arrived' on d none fewer same = record { more = d.more; given = subst (λ l. gives a l c) (append-nil d.more) (on a b c d.more [] d.given none); all = same ∙ d.all; few = omega (arith, d.few, fewer, ap length same) }

pub arrived_more : {A : Type 0} (gives : A → List DrawopValue → A → Type 0) (most : A → ℕ) (a : A) (was : List DrawopValue) (b : A) (arrived : List DrawopValue) (c : A) (arrived' : List DrawopValue) (x : ℕ × DrawopValue) → GivesOn gives
    → HasArrived gives most a was b arrived → OneArrives gives most b arrived c arrived' x → HasArrived gives most a was c arrived'
arrived_more gives most a was b arrived c arrived' x on d one = record {
  more = d.more ++ x.1 ∷ [];
  given = on a b c d.more (x.1 ∷ []) d.given one.given;
  all = one.all ∙ (ap (λ l. l ++ x.1 ∷ []) d.all ∙ append_assoc was d.more (x.1 ∷ []));
  few = omega (arith, d.few, one.nearer, ap length one.all, length-append arrived (x.1 ∷ []));
}

pub sent_more : {A : Type 0} (gives : A → List DrawopValue → A → Type 0) (most : A → ℕ) (a : A) (arrived : List DrawopValue) (b : A) (more : List DrawopValue) (h i : ChannelView) (going r : Bool) (x : ℕ × DrawopValue) → IsSent h arrived going → OneArrives gives most a arrived b more x
    → (r ≡ true → (going ≡ true) × (i ≡ sends h (Take x.0 x.1))) → (r ≡ false → i ≡ h) → IsSent i more r
sent_more gives most a arrived b more h i going true x s d won shut =
    let t = won refl in
    let e : i.sent ≡ more = ap (λ (v : ChannelView). v.sent) t.1 ∙ (ap (λ l. l ++ x.1 ∷ []) (s.all t.0) ∙ sym d.all) in
    record { sends = ap (λ (v : ChannelView). v.sends) t.1 ∙ s.sends; first = prefix_take i.sent more (subst (λ l. IsPrefix i.sent l) e (prefix_self i.sent)); all = λ _. e }
sent_more gives most a arrived b more h i going false x s d won shut =
    let e = shut refl in
    record {
      sends = ap (λ (v : ChannelView). v.sends) e ∙ s.sends;
      first = prefix_take i.sent more (rw (ap (λ (v : ChannelView). v.sent) e) (prefix_trans h.sent arrived more (take_prefix h.sent arrived s.first) (x.1 ∷ [], sym d.all)));
      all = λ f. absurd (true≢false (sym f));
    }
