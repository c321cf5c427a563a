-- Transitions that are performed one after the other.
use Rattle.std.proofs.Common.{◌≡◌, Bool, List, [], ◌∷◌, ◌++◌, ◌∙◌, ap, append-nil, append_assoc, refl, sym, subst}
use Rattle.wb_codec.specs.declared.datagram.Datagram.{Datagram}
use Rattle.wb_member.specs.Holding.{IsOpenAt, MemberValue}
use Rattle.wb_member.specs.Opened.{Opened}
use Rattle.wb_keeping.specs.Kept.{Doing, Line, Transition, and_then, is_begun, performs, still}
use Rattle.wb_keeping.specs.Performing.{Does, DoesQuietly, IsKeptAt, Keeping, KeptValue, after_doing, after_line, after_lines, sees, sent_by_doing, sent_by_line, sent_by_lines, view_of}
use Rattle.wb_policy.specs.Policy.{Policy}
use Rattle.wb_keeping.specs.Views.{View}
use Rattle.wb_keeping.specs.Steps.{performs_all}

-- ---- lines after lines

pub after_both : (one other : List Line) (host : Opened) → after_lines (one ++ other) host ≡ after_lines other (after_lines one host)
after_both [] other host = refl
after_both (line ∷ one) other host = after_both one other (after_line line host)

pub sent_by_both : (one other : List Line) (host : Opened) → sent_by_lines (one ++ other) host ≡ sent_by_lines one host ++ sent_by_lines other (after_lines one host)
sent_by_both [] other host = refl
sent_by_both (line ∷ one) other host =
    ap (λ (sent : List Datagram). sent_by_line line host ++ sent) (sent_by_both one other (after_line line host))
    ∙ sym (append_assoc (sent_by_line line host) (sent_by_lines one (after_line line host)) (sent_by_lines other (after_lines one (after_line line host))))

-- what is seen after the lines of a first transition
pub seen_then : (one : List Line) (host : Opened) → (λ (lines : List Line). sees host (one ++ lines)) ≡ sees (after_lines one host)
seen_then one host = λ i. λ lines. view_of (after_both one lines host i)

module _ (first second : Transition) (k : Keeping) where
  abbrev one : Doing
  one = first (sees k.host) k.policy

  abbrev middle : Keeping
  middle = after_doing first k

  abbrev two : Doing
  two = second (sees middle.host) middle.policy

  same_second : second (λ lines. sees k.host (one.lines ++ lines)) one.policy ≡ two
  same_second = ap (λ (see : List Line → View). second see one.policy) (seen_then one.lines k.host)

  pub then_after : after_doing (and_then first second) k ≡ after_doing second middle
  then_after =
      ap (λ (d : Doing). let k : Keeping = record { host = after_lines (one.lines ++ d.lines) k.host; policy = d.policy } in k) same_second
      ∙ ap (λ (h : Opened). let k : Keeping = record { host = h; policy = two.policy } in k) (after_both one.lines two.lines k.host)

  pub then_sent : sent_by_doing (and_then first second) k ≡ sent_by_doing first k ++ sent_by_doing second middle
  then_sent = ap (λ (d : Doing). sent_by_lines (one.lines ++ d.lines) k.host) same_second ∙ sent_by_both one.lines two.lines k.host

-- ---- transitions after transitions

pub does_then : (first second : Transition) {a b c : KeptValue} {before between after : List Datagram} → Does first a b before between → Does second b c between after → Does (and_then first second) a c before after
does_then first second {a} {b} {c} {before} {between} {after} one two = record {
  at = λ k at.
      let o = one.at k at in
      let t = two.at (after_doing first k) o.1 in (
        t.0 ∙ ap (λ (sent : List Datagram). sent ++ sent_by_doing second (after_doing first k)) o.0
            ∙ append_assoc before (sent_by_doing first k) (sent_by_doing second (after_doing first k))
            ∙ ap (λ (sent : List Datagram). before ++ sent) (sym (then_sent first second k)),
        subst (IsKeptAt c) (sym (then_after first second k)) t.1,
      );
}

pub quiet_then : (first second : Transition) {a b c : KeptValue} → DoesQuietly first a b → DoesQuietly second b c → DoesQuietly (and_then first second) a c
quiet_then first second one two = record { sends = λ sent. does_then first second (one.sends sent) (two.sends sent) }

pub does_still : (a : KeptValue) (sent : List Datagram) → Does still a a sent sent
does_still a sent = record { at = λ k at. (sym (append-nil sent), at) }

pub quiet_still : (a : KeptValue) → DoesQuietly still a a
quiet_still a = record { sends = λ sent. does_still a sent }

-- The same lines, and the same policy afterwards, from another policy on.
pub does_by : (does other : Transition) {a b c : KeptValue} {before after : List Datagram}
    → ((k : Keeping) → IsKeptAt a k → (p : Policy) × (b.policy ≡ p) × (does (sees k.host) k.policy ≡ other (sees k.host) p)) → b.member ≡ a.member → Does other b c before after → Does does a c before after
does_by does other {a} {b} {c} {before} {after} same stays it = record {
  at = λ k at.
      let s = same k at in
      let there : Keeping = record { host = k.host; policy = s.0 } in
      let h : IsKeptAt b there = record { member = subst (λ (m : MemberValue). IsOpenAt m k.host) (sym stays) at.member; policy = s.1 } in
      let r = it.at there h in (
        r.0 ∙ ap (λ (d : Doing). before ++ sent_by_lines d.lines k.host) (sym s.2),
        subst (IsKeptAt c) (ap (λ (d : Doing). let k : Keeping = record { host = after_lines d.lines k.host; policy = d.policy } in k) (sym s.2)) r.1,
      );
}

pub quiet_by : (does other : Transition) {a b c : KeptValue}
    → ((k : Keeping) → IsKeptAt a k → (p : Policy) × (b.policy ≡ p) × (does (sees k.host) k.policy ≡ other (sees k.host) p)) → b.member ≡ a.member → DoesQuietly other b c → DoesQuietly does a c
quiet_by does other same stays it = record { sends = λ sent. does_by does other same stays (it.sends sent) }

-- the same, from the same policy on
pub does_as : (does other : Transition) {a b : KeptValue} {before after : List Datagram}
    → ((k : Keeping) → IsKeptAt a k → does (sees k.host) k.policy ≡ other (sees k.host) k.policy) → Does other a b before after → Does does a b before after
does_as does other {a} same it = does_by does other (λ k at. (k.policy, at.policy, same k at)) refl it

pub quiet_as : (does other : Transition) {a b : KeptValue}
    → ((k : Keeping) → IsKeptAt a k → does (sees k.host) k.policy ≡ other (sees k.host) k.policy) → DoesQuietly other a b → DoesQuietly does a b
quiet_as does other same it = record { sends = λ sent. does_as does other same (it.sends sent) }

-- and so whether a name is begun to be asked for
pub begun_by : (does other : Transition) {a b : KeptValue} {begun : Bool}
    → ((k : Keeping) → IsKeptAt a k → (p : Policy) × (b.policy ≡ p) × (does (sees k.host) k.policy ≡ other (sees k.host) p)) → b.member ≡ a.member
    → ((k : Keeping) → IsKeptAt b k → begun ≡ is_begun (other (sees k.host) k.policy)) → (k : Keeping) → IsKeptAt a k → begun ≡ is_begun (does (sees k.host) k.policy)
begun_by does other same stays is k at =
    let s = same k at in
    let there : Keeping = record { host = k.host; policy = s.0 } in
    is there (record { member = subst (λ (m : MemberValue). IsOpenAt m k.host) (sym stays) at.member; policy = s.1 }) ∙ ap is_begun (sym s.2)

-- a line
pub does_line : (line : Line) {a b : KeptValue} {before after : List Datagram} → b.policy ≡ a.policy
    → ((host : Opened) → IsOpenAt a.member host → (after ≡ before ++ sent_by_line line host) × IsOpenAt b.member (after_line line host)) → Does (performs line) a b before after
does_line line {a} {b} {before} {after} stays it = record {
  at = λ k at.
      let r = it k.host at.member in
      (r.0 ∙ ap (λ (sent : List Datagram). before ++ sent) (sym (append-nil (sent_by_line line k.host))), record { member = r.1; policy = stays ∙ at.policy });
}

pub quiet_line : (line : Line) {a b : KeptValue} → b.policy ≡ a.policy
    → ((host : Opened) → IsOpenAt a.member host → ([] ≡ sent_by_line line host) × IsOpenAt b.member (after_line line host)) → DoesQuietly (performs line) a b
quiet_line line {a} {b} stays it = record { sends = λ sent. does_line line stays (λ host at. (sym (append-nil sent) ∙ ap (λ (more : List Datagram). sent ++ more) (it host at).0, (it host at).1)) }

-- lines after lines
pub quiet_more : (one other : List Line) {a b c : KeptValue} → DoesQuietly (performs_all one) a b → DoesQuietly (performs_all other) b c → DoesQuietly (performs_all (one ++ other)) a c
quiet_more one other f g = quiet_then (performs_all one) (performs_all other) f g

-- What is done at each host, by whatever lines.
pub does_seen : (does : Transition) {a b : KeptValue} {before after : List Datagram}
    → ((k : Keeping) → IsKeptAt a k → (d : Doing) × (does (sees k.host) k.policy ≡ d) × (after ≡ before ++ sent_by_lines d.lines k.host) × IsKeptAt b (record { host = after_lines d.lines k.host; policy = d.policy })) → Does does a b before after
does_seen does {a} {b} {before} it = record {
  at = λ k at.
      let s = it k at in (
        s.2 ∙ ap (λ (d : Doing). before ++ sent_by_lines d.lines k.host) (sym s.1),
        subst (IsKeptAt b) (ap (λ (d : Doing). let k : Keeping = record { host = after_lines d.lines k.host; policy = d.policy } in k) (sym s.1)) s.3,
      );
}

-- ---- what code holds

pub quiet_of : {does : Transition} {v old new : KeptValue} → v ≡ old → DoesQuietly does v new → DoesQuietly does old new
quiet_of {does} {v} {old} {new} e it = subst (λ (v : KeptValue). DoesQuietly does v new) e it

pub at_inside : {v old : KeptValue} (k : Keeping) → v ≡ old → IsKeptAt old k → IsKeptAt v k
at_inside k e at = subst (λ (v : KeptValue). IsKeptAt v k) (sym e) at

-- ---- at one host

abbrev pub DoneAt : Transition → Keeping → KeptValue → List Datagram → List Datagram → Type 0
DoneAt does k new before after = (after ≡ before ++ sent_by_doing does k) × IsKeptAt new (after_doing does k)

pub then_at : (first second : Transition) (k : Keeping) (b c : KeptValue) (before between after : List Datagram) → DoneAt first k b before between → DoneAt second (after_doing first k) c between after → DoneAt (and_then first second) k c before after
then_at first second k b c before between after o t = (
  t.0 ∙ ap (λ (sent : List Datagram). sent ++ sent_by_doing second (after_doing first k)) o.0
      ∙ append_assoc before (sent_by_doing first k) (sent_by_doing second (after_doing first k))
      ∙ ap (λ (sent : List Datagram). before ++ sent) (sym (then_sent first second k)),
  subst (IsKeptAt c) (sym (then_after first second k)) t.1,
)
