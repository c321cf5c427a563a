-- What a keeper stands for, once it has heard a datagram.
use Rattle.std.proofs.Common.{◌≡◌, ℕ, ◌+◌, Bool, true, false, cond, Option, Some, None, List, [], ◌∷◌, length, refl, ap, ◌∙◌, sym, subst, arith, max, true≢false, eqb-true}
use Rattle.std.specs.Prelude.{nat_eq, nat_le, nat_lt, not, unwrap_or, is_some, ◌||◌}
use Rattle.std.specs.List.{find, list_any}
use Rattle.std.specs.Option.{option_or}
use Rattle.std.specs.Ordering.{nat_cmp}
use Rattle.std.specs.BTreeMap.{is_at, insert_entry}
use Rattle.std.specs.Map.{lookup}
use Rattle.std.proofs.lemmas.Bool.Decides.{nat_tests}
use Rattle.wb_names.specs.Values.{NameValue, MarkValue}
use Rattle.wb_names.specs.Orders.{page_cmp, same_page}
use Rattle.wb_names.specs.Marks.{mark_of, IsMerge}
use Rattle.wb_names.specs.Ascending.{AreMarks}
use Rattle.wb_names.specs.declared.name.PageId.{PageId}
use Rattle.wb_codec.specs.declared.datagram.Datagram.{Datagram}
use Rattle.wb_codec.specs.declared.datagram.Datagram.TheVariants.{Draw, Session, Request, AskPages, PageState}
use Rattle.wb_names.specs.declared.echo.Echo.{Echo}
use Rattle.wb_names.proofs.Orders.{nat_ties, page_ties, same_page-is}
use Rattle.wb_gaps.specs.Joining.{joined}
use Rattle.wb_gaps.proofs.JoinedMarks.{is_merge, joined_count, joins_read}
use Rattle.wb_gaps.proofs.MergeLength.{merges_all_sources}
use Rattle.wb_gaps.proofs.Rearranged.{one_merge}
use Rattle.wb_gaps.proofs.Starts.{nat_itself, page_is, page_itself}
use Rattle.wb_recovery.specs.Events.{Event, Asked}
use Rattle.wb_recovery.specs.Accepted as timers
use Rattle.wb_recovery.specs.Values.{RecoveryValue}
use Rattle.wb_recovery.specs.declared.tuning.Tuning.{Tuning}
use Rattle.wb_keeper.specs.Keeper.{KeeperCall, Hear, newest, is_own, high_in, high_reported, high_heard, delay_in, delay_given, delay_to, session_in, session_heard, senders_of, remember, heard_by, last_heard, delay_by, asked_by, events_of}
use Rattle.wb_keeper.specs.Hearing.{marks_in, marks_reported, marks_heard}
use Rattle.wb_keeper.specs.Keeping.{KeeperValue, StandsFor, Keeps, delay_at, heard_at, marks_at}
use Rattle.wb_keeper.specs.declared.keeper.Heard.{Heard}
use Rattle.wb_keeper.specs.TakingIn.{count_with, delays_with, has_place, heard_with, marks_with, IsMerged}
use Rattle.wb_keeper.proofs.KeptCalls.{max_none}
use Rattle.wb_keeper.proofs.MapEdits.{lookup_put, nat_one}
use Rattle.wb_names.specs.declared.entries.TheConstants.{MAX_ENTRIES}

-- it is enough to look at the keeper's own number
keeps_own : (call : KeeperCall) (old new : KeeperValue) → ((t : Tuning) (calls : List KeeperCall) → StandsFor old.me t calls old → StandsFor old.me t (call ∷ calls) new) → Keeps call old new
keeps_own call old new k me t calls s = subst (λ (m : ℕ). StandsFor m t (call ∷ calls) new) s.me_is (k t calls (subst (λ (m : ℕ). StandsFor m t calls old) (sym s.me_is) s))

-- ---- calls that tell this member nothing

pub record IsSilent (me : ℕ) (call : KeeperCall) : Type 0 where
  pub delays : (source : ℕ) → delay_given me source call ≡ None
  pub sessions : session_heard me call ≡ None
  pub marks : (page : PageId) (source : ℕ) → high_reported me page source call ≡ 0
  pub merged : (page : PageId) → marks_reported me page call ≡ []

module _ (me now : ℕ) (d : Datagram) (word : ℕ) (held : Bool) where
  own_silent : is_own me d ≡ true → IsSilent me (Hear now d word held)
  own_silent e = record {
    delays = λ source. ap (λ (b : Bool). cond b None (delay_in me now source d)) e;
    sessions = ap (λ (b : Bool). cond b None (session_in now d)) e;
    marks = λ page source. ap (λ (b : Bool). cond b 0 (high_in page source d)) e;
    merged = λ page. ap (λ (b : Bool). cond b [] (marks_in page d)) e;
  }

  other_silent : is_own me d ≡ false → ((source : ℕ) → delay_in me now source d ≡ None) → session_in now d ≡ None → ((page : PageId) (source : ℕ) → high_in page source d ≡ 0) → ((page : PageId) → marks_in page d ≡ []) → IsSilent me (Hear now d word held)
  other_silent e delays sessions marks merged = record {
    delays = λ source. ap (λ (b : Bool). cond b None (delay_in me now source d)) e ∙ delays source;
    sessions = ap (λ (b : Bool). cond b None (session_in now d)) e ∙ sessions;
    marks = λ page source. ap (λ (b : Bool). cond b 0 (high_in page source d)) e ∙ marks page source;
    merged = λ page. ap (λ (b : Bool). cond b [] (marks_in page d)) e ∙ merged page;
  }

-- such a call changes the timers and the moment alone
keeps_silent : (old new : KeeperValue) (now : ℕ) (d : Datagram) (word : ℕ) (held : Bool) (recovery : RecoveryValue) → IsSilent old.me (Hear now d word held) → new ≡ record old { moment = now; recovery = recovery }
    → ((t : Tuning) (calls : List KeeperCall) → StandsFor old.me t calls old → timers.StandsFor t (asked_by old.me (delay_to old.me calls) now d word held (events_of old.me calls)) recovery) → Keeps (Hear now d word held) old new
keeps_silent old new now d word held recovery silent is stands = keeps_own (Hear now d word held) old new (λ t calls s. subst (StandsFor old.me t (Hear now d word held ∷ calls)) (sym is) (record {
  me_is = refl;
  moment = refl;
  recovery = stands t calls s;
  delays = λ source. s.delays source ∙ sym (ap (λ (o : Option ℕ). unwrap_or (option_or o (newest (delay_given old.me source) calls)) 100000) (silent.delays source));
  heard = λ source. s.heard source ∙ sym (
      ap (λ o. cond (list_any (nat_eq source) (remember o (senders_of old.me calls))) (option_or (heard_by source o) (newest (λ c. heard_by source (session_heard old.me c)) calls)) None) silent.sessions);
  senders = s.senders ∙ sym (ap (λ o. length (remember o (senders_of old.me calls))) silent.sessions);
  marks = λ page source. s.marks page source ∙ sym (ap (λ (n : ℕ). max n (high_heard old.me calls page source)) (silent.marks page source) ∙ max_none _);
  merged = λ page. s.merged page ∙ sym (ap (λ (ms : List MarkValue). joined ms (marks_heard old.me calls page)) (silent.merged page));
}))

own_events : (me : ℕ) (delays : ℕ → ℕ) (now : ℕ) (d : Datagram) (word : ℕ) (held : Bool) (events : List Event) → is_own me d ≡ true → events ≡ asked_by me delays now d word held events
own_events me delays now (Draw d) word held events e = refl
own_events me delays now (Session sender sent page marks echoes) word held events e = refl
own_events me delays now (Request asker name) word held events e = sym (ap (λ (b : Bool). cond b events (Asked name held now (delays (cond held asker name.source)) word ∷ events)) e)
own_events me delays now (AskPages asker) word held events e = refl
own_events me delays now (PageState sender page marks) word held events e = refl

-- what this member sent itself
pub keeps_own_datagram : (old new : KeeperValue) (now : ℕ) (d : Datagram) (word : ℕ) (held : Bool) → is_own old.me d ≡ true → new ≡ record old { moment = now } → Keeps (Hear now d word held) old new
keeps_own_datagram old new now d word held e is = keeps_silent old new now d word held old.recovery (own_silent old.me now d word held e) is
    (λ t calls s. subst (λ (events : List Event). timers.StandsFor t events old.recovery) (own_events old.me (delay_to old.me calls) now d word held (events_of old.me calls) e) s.recovery)

-- the timers take in a request
pub keeps_request : (old new : KeeperValue) (now asker : ℕ) (name : NameValue) (word : ℕ) (held : Bool) (recovery : RecoveryValue) (delay : ℕ) → nat_eq asker old.me ≡ false → new ≡ record old { moment = now; recovery = recovery }
    → delay ≡ delay_at old.delays (cond held asker name.source) → timers.Accepts (Asked name held now delay word) old.recovery recovery → Keeps (Hear now (Request asker name) word held) old new
keeps_request old new now asker name word held recovery delay e is near accepts = keeps_silent old new now (Request asker name) word held recovery
    (other_silent old.me now (Request asker name) word held e (λ source. refl) refl (λ page source. refl) (λ page. refl)) is
    (λ t calls s. subst (λ (events : List Event). timers.StandsFor t events recovery)
    (ap (λ (n : ℕ). Asked name held now n word ∷ events_of old.me calls) (near ∙ s.delays (cond held asker name.source)) ∙ sym (ap (λ (b : Bool). cond b (events_of old.me calls) (Asked name held now (delay_to old.me calls (cond held asker name.source)) word ∷ events_of old.me calls)) e))
    (accepts t (events_of old.me calls) s.recovery))

-- ---- marks

page_turned : (p q : PageId) → is_at (page_cmp p) q ≡ same_page q p
page_turned p q = sym (page_ties p q) ∙ turned p q where
  turned : (p q : PageId) → same_page p q ≡ same_page q p
  turned p q = grind (arith, nat_tests)

-- of each page, what is kept once the merged marks are put at theirs
marks_put : (old : List (PageId × List MarkValue)) (page : PageId) (merged : Option (List MarkValue)) (p : PageId) → marks_at (marks_with page merged old) p ≡ cond (same_page page p) (unwrap_or merged (marks_at old page)) (marks_at old p)
marks_put old page None p = from (same_page page p) refl where
  from : (b : Bool) → same_page page p ≡ b → marks_at old p ≡ cond b (marks_at old page) (marks_at old p)
  from true e = ap (marks_at old) (sym (same_page-is page p e))
  from false e = refl
marks_put old page (Some merged) p = ap (λ (o : Option (List MarkValue)). unwrap_or o []) (lookup_put page_cmp page_is page_itself page merged p old ∙ ap (λ (b : Bool). cond b (Some merged) (lookup (is_at (page_cmp p)) old)) (page_turned p page)) ∙ from (same_page page p) where
  from : (b : Bool) → unwrap_or (cond b (Some merged) (lookup (is_at (page_cmp p)) old)) [] ≡ cond b merged (marks_at old p)
  from true = refl
  from false = refl

-- a datagram tells marks of one page
module _ (old : List (PageId × List MarkValue)) (page : PageId) (marks : List MarkValue) (merged : Option (List MarkValue)) (is : IsMerged (marks_at old page) marks merged) where
  pub marks_of_put : (p : PageId) (source : ℕ) → mark_of (marks_at (marks_with page merged old) p) source ≡ max (cond (same_page page p) (mark_of marks source) 0) (mark_of (marks_at old p) source)
  marks_of_put p source = ap (λ (ms : List MarkValue). mark_of ms source) (marks_put old page merged p) ∙ from (same_page page p) refl where
    from : (b : Bool) → same_page page p ≡ b → mark_of (cond b (unwrap_or merged (marks_at old page)) (marks_at old p)) source ≡ max (cond b (mark_of marks source) 0) (mark_of (marks_at old p) source)
    from true e = let m = is.merges.1 source in let same : mark_of (marks_at old page) source ≡ mark_of (marks_at old p) source = ap (λ (q : PageId). mark_of (marks_at old q) source) (same_page-is page p e) in omega arith
    from false e = sym (max_none _)

  lawful : AreMarks (joined marks (marks_at old page))
  lawful =
      let count = joined_count marks (marks_at old page) is.told_are is.heard_are in
      let turned : IsMerge marks (marks_at old page) (unwrap_or merged (marks_at old page)) = (is.merges.0, λ s. let m = is.merges.1 s in omega arith) in
      let all = merges_all_sources marks (marks_at old page) (unwrap_or merged (marks_at old page)) is.told_are is.heard_are turned in
      let few = is.merges.0.few in
      let j = joins_read marks (marks_at old page) marks (marks_at old page) (joined marks (marks_at old page)) refl refl is.told_are is.heard_are refl in
      record { ascending = j.rises; positive = j.positive is.told_are.positive is.heard_are.positive; few = omega (arith, count.0) }

  pub merged_put : (p : PageId) → marks_at (marks_with page merged old) p ≡ joined (cond (same_page page p) marks []) (marks_at old p)
  merged_put p = marks_put old page merged p ∙ from (same_page page p) refl where
    from : (b : Bool) → same_page page p ≡ b → cond b (unwrap_or merged (marks_at old page)) (marks_at old p) ≡ joined (cond b marks []) (marks_at old p)
    from true e = one_merge (marks_at old page) marks (unwrap_or merged (marks_at old page)) (joined marks (marks_at old page)) is.merges (is_merge marks (marks_at old page) marks (marks_at old page) (joined marks (marks_at old page)) (joined marks (marks_at old page)) refl refl is.told_are is.heard_are refl refl lawful)
        ∙ ap (λ (q : PageId). joined marks (marks_at old q)) (same_page-is page p e)
    from false e = refl

-- a page state tells marks alone
pub keeps_state : (old new : KeeperValue) (now sender : ℕ) (page : PageId) (marks : List MarkValue) (merged : Option (List MarkValue)) (word : ℕ) (held : Bool) → nat_eq sender old.me ≡ false → new ≡ record old { moment = now; marks = marks_with page merged old.marks }
    → IsMerged (marks_at old.marks page) marks merged → Keeps (Hear now (PageState sender page marks) word held) old new
keeps_state old new now sender page marks merged word held e is merges = keeps_own (Hear now (PageState sender page marks) word held) old new (λ t calls s. subst (StandsFor old.me t (Hear now (PageState sender page marks) word held ∷ calls)) (sym is) (record {
  me_is = refl;
  moment = refl;
  recovery = s.recovery;
  delays = λ source. s.delays source ∙ sym (ap (λ (b : Bool). unwrap_or (option_or (cond b None None) (newest (delay_given old.me source) calls)) 100000) e);
  heard = λ source. s.heard source ∙ sym (ap (λ (b : Bool). cond (list_any (nat_eq source) (remember (cond b None None) (senders_of old.me calls))) (option_or (heard_by source (cond b None None)) (newest (λ c. heard_by source (session_heard old.me c)) calls)) None) e);
  senders = s.senders ∙ sym (ap (λ (b : Bool). length (remember (cond b None None) (senders_of old.me calls))) e);
  marks = λ p source. marks_of_put old.marks page marks merged merges p source ∙ ap (λ (n : ℕ). max (cond (same_page page p) (mark_of marks source) 0) n) (s.marks p source) ∙ sym (ap (λ (b : Bool). max (cond b 0 (cond (same_page page p) (mark_of marks source) 0)) (high_heard old.me calls p source)) e);
  merged = λ p. merged_put old.marks page marks merged merges p ∙ ap (λ (ms : List MarkValue). joined (cond (same_page page p) marks []) ms) (s.merged p) ∙ sym (ap (λ (b : Bool). joined (cond b [] (cond (same_page page p) marks [])) (marks_heard old.me calls p)) e);
}))

-- ---- the senders of session messages

nat_turned : (a b : ℕ) → is_at (nat_cmp a) b ≡ nat_eq b a
nat_turned a b = sym (nat_ties a b) ∙ turned a b where
  turned : (a b : ℕ) → nat_eq a b ≡ nat_eq b a
  turned a b = grind (arith, nat_tests)

eq_turned : (a b : ℕ) (c : Bool) → nat_eq a b ≡ c → nat_eq b a ≡ c
eq_turned a b c e = turned a b ∙ e where
  turned : (a b : ℕ) → nat_eq b a ≡ nat_eq a b
  turned a b = grind (arith, nat_tests)

abbrev heard_last : ℕ → List KeeperCall → ℕ → Option Heard
heard_last me calls source = newest (λ call. heard_by source (session_heard me call)) calls

heard_before : (me : ℕ) (calls : List KeeperCall) (s : ℕ) → list_any (nat_eq s) (senders_of me calls) ≡ true → is_some (heard_last me calls s) ≡ true
heard_before me [] s e = absurd (true≢false (sym e))
heard_before me (call ∷ calls) s e = from (heard_before me calls s) (session_heard me call) e where
  from : (list_any (nat_eq s) (senders_of me calls) ≡ true → is_some (heard_last me calls s) ≡ true) → (o : Option (ℕ × Heard)) → list_any (nat_eq s) (remember o (senders_of me calls)) ≡ true → is_some (option_or (heard_by s o) (heard_last me calls s)) ≡ true
  from rest None f = rest f
  from rest (Some told) f = by (nat_eq told.0 s) refl where
    none : nat_eq told.0 s ≡ false → (c : Bool) → list_any (nat_eq s) (cond c (senders_of me calls) (told.0 ∷ senders_of me calls)) ≡ true → list_any (nat_eq s) (senders_of me calls) ≡ true
    none g true h = h
    none g false h = sym (ap (λ (b : Bool). b || list_any (nat_eq s) (senders_of me calls)) (eq_turned told.0 s false g)) ∙ h

    by : (b : Bool) → nat_eq told.0 s ≡ b → is_some (option_or (cond b (Some told.1) None) (heard_last me calls s)) ≡ true
    by true g = refl
    by false g = rest (none g (list_any (nat_eq told.0) (senders_of me calls) || nat_le MAX_ENTRIES (length (senders_of me calls))) f)

module _ (me : ℕ) (calls : List KeeperCall) (old : List (ℕ × Heard)) (sender : ℕ) (h : Heard) (agrees : (s : ℕ) → heard_at old s ≡ last_heard me calls s) (count : length old ≡ length (senders_of me calls)) where
  known : (s : ℕ) → is_some (heard_at old s) ≡ list_any (nat_eq s) (senders_of me calls)
  known s = ap is_some (agrees s) ∙ from (list_any (nat_eq s) (senders_of me calls)) refl where
    from : (b : Bool) → list_any (nat_eq s) (senders_of me calls) ≡ b → is_some (cond b (heard_last me calls s) None) ≡ b
    from true e = heard_before me calls s e
    from false e = refl

  pub count_put : count_with sender old ≡ length (remember (Some (sender, h)) (senders_of me calls))
  count_put = ap (λ (b : Bool). cond (b || nat_le MAX_ENTRIES (length old)) (length old) (length old + 1)) (known sender) ∙ ap (λ (n : ℕ). cond (list_any (nat_eq sender) (senders_of me calls) || nat_le MAX_ENTRIES n) n (n + 1)) count ∙ from (list_any (nat_eq sender) (senders_of me calls) || nat_le MAX_ENTRIES (length (senders_of me calls))) where
    from : (b : Bool) → cond b (length (senders_of me calls)) (length (senders_of me calls) + 1) ≡ length (cond b (senders_of me calls) (sender ∷ senders_of me calls))
    from true = refl
    from false = omega arith

  put_at : (s : ℕ) → heard_at (insert_entry nat_cmp old sender h) s ≡ cond (nat_eq sender s) (Some h) (heard_at old s)
  put_at s = lookup_put nat_cmp nat_one nat_itself sender h s old ∙ ap (λ (b : Bool). cond b (Some h) (heard_at old s)) (nat_turned s sender)

  placed : has_place sender old ≡ (list_any (nat_eq sender) (senders_of me calls) || not (nat_le MAX_ENTRIES (length (senders_of me calls))))
  placed = ap (λ (b : Bool). b || nat_lt (length old) MAX_ENTRIES) (known sender) ∙ ap (λ (b : Bool). list_any (nat_eq sender) (senders_of me calls) || b) (room (length old) ∙ ap (λ (n : ℕ). not (nat_le MAX_ENTRIES n)) count) where
    room : (n : ℕ) → nat_lt n MAX_ENTRIES ≡ not (nat_le MAX_ENTRIES n)
    room n = grind (arith, nat_tests)

  pub heard_put : (s : ℕ) → heard_at (heard_with sender h old) s ≡ cond (list_any (nat_eq s) (remember (Some (sender, h)) (senders_of me calls))) (option_or (cond (nat_eq sender s) (Some h) None) (heard_last me calls s)) None
  heard_put s = ap (λ (b : Bool). heard_at (cond b (insert_entry nat_cmp old sender h) old) s) placed ∙ from (list_any (nat_eq sender) (senders_of me calls)) (nat_le MAX_ENTRIES (length (senders_of me calls))) (nat_eq sender s) refl refl where
    from : (seen full b : Bool) → list_any (nat_eq sender) (senders_of me calls) ≡ seen → nat_eq sender s ≡ b
        → heard_at (cond (seen || not full) (insert_entry nat_cmp old sender h) old) s ≡ cond (list_any (nat_eq s) (cond (seen || full) (senders_of me calls) (sender ∷ senders_of me calls))) (option_or (cond b (Some h) None) (heard_last me calls s)) None
    from true full true e f = put_at s ∙ ap (λ (b : Bool). cond b (Some h) (heard_at old s)) f ∙ sym (ap (λ (b : Bool). cond b (Some h) None) (ap (λ (n : ℕ). list_any (nat_eq n) (senders_of me calls)) (sym (eqb-true sender s f)) ∙ e))
    from true full false e f = put_at s ∙ ap (λ (b : Bool). cond b (Some h) (heard_at old s)) f ∙ agrees s
    from false false true e f = put_at s ∙ ap (λ (b : Bool). cond b (Some h) (heard_at old s)) f ∙ sym (ap (λ (b : Bool). cond (b || list_any (nat_eq s) (senders_of me calls)) (Some h) None) (eq_turned sender s true f))
    from false false false e f = put_at s ∙ ap (λ (b : Bool). cond b (Some h) (heard_at old s)) f ∙ agrees s ∙ sym (ap (λ (b : Bool). cond (b || list_any (nat_eq s) (senders_of me calls)) (heard_last me calls s) None) (eq_turned sender s false f))
    from false true true e f =
        let gone : list_any (nat_eq s) (senders_of me calls) ≡ false = ap (λ (n : ℕ). list_any (nat_eq n) (senders_of me calls)) (sym (eqb-true sender s f)) ∙ e in
        agrees s ∙ ap (λ (b : Bool). cond b (heard_last me calls s) None) gone ∙ sym (ap (λ (b : Bool). cond b (Some h) None) gone)
    from false true false e f = agrees s

-- the delay that an echo told
delay_put : (old : List (ℕ × ℕ)) (sender : ℕ) (delay rest : Option ℕ) (source : ℕ) → delay_at old source ≡ unwrap_or rest 100000 → delay_at (delays_with sender delay old) source ≡ unwrap_or (option_or (cond (nat_eq sender source) delay None) rest) 100000
delay_put old sender None rest source same = same ∙ from (nat_eq sender source) where
  from : (b : Bool) → unwrap_or rest 100000 ≡ unwrap_or (option_or (cond b None None) rest) 100000
  from true = refl
  from false = refl
delay_put old sender (Some d) rest source same = ap (λ (o : Option ℕ). unwrap_or o 100000) (lookup_put nat_cmp nat_one nat_itself sender d source old ∙ ap (λ (b : Bool). cond b (Some d) (lookup (is_at (nat_cmp source)) old)) (nat_turned source sender)) ∙ from (nat_eq sender source) where
  from : (b : Bool) → unwrap_or (cond b (Some d) (lookup (is_at (nat_cmp source)) old)) 100000 ≡ unwrap_or (option_or (cond b (Some d) None) rest) 100000
  from true = refl
  from false = same

-- a session message
pub keeps_session : (old new : KeeperValue) (now sender sent : ℕ) (page : PageId) (marks : List MarkValue) (merged : Option (List MarkValue)) (echoes : List Echo) (delay : Option ℕ) (word : ℕ) (held : Bool) → nat_eq sender old.me ≡ false
    → delay ≡ delay_by now (find (λ e. nat_eq e.source old.me) echoes)
    → new ≡ record old { moment = now; delays = delays_with sender delay old.delays; heard = heard_with sender (record { sent = sent; at = now }) old.heard; marks = marks_with page merged old.marks }
    → length new.heard ≡ count_with sender old.heard
    → IsMerged (marks_at old.marks page) marks merged → Keeps (Hear now (Session sender sent page marks echoes) word held) old new
keeps_session old new now sender sent page marks merged echoes delay word held e told is counted merges = keeps_own (Hear now (Session sender sent page marks echoes) word held) old new (λ t calls s. subst (StandsFor old.me t (Hear now (Session sender sent page marks echoes) word held ∷ calls)) (sym is) (record {
  me_is = refl;
  moment = refl;
  recovery = s.recovery;
  delays = λ source. delay_put old.delays sender delay (newest (delay_given old.me source) calls) source (s.delays source)
      ∙ ap (λ (o : Option ℕ). unwrap_or (option_or (cond (nat_eq sender source) o None) (newest (delay_given old.me source) calls)) 100000) told
      ∙ sym (ap (λ (b : Bool). unwrap_or (option_or (cond b None (cond (nat_eq sender source) (delay_by now (find (λ e. nat_eq e.source old.me) echoes)) None)) (newest (delay_given old.me source) calls)) 100000) e);
  heard = λ source. heard_put old.me calls old.heard sender (record { sent = sent; at = now }) s.heard s.senders source
      ∙ sym (ap (λ (b : Bool). cond (list_any (nat_eq source) (remember (cond b None (Some (sender, record { sent = sent; at = now }))) (senders_of old.me calls))) (option_or (heard_by source (cond b None (Some (sender, record { sent = sent; at = now })))) (heard_last old.me calls source)) None) e);
  senders = sym (ap (λ (v : KeeperValue). length v.heard) is) ∙ counted ∙ count_put old.me calls old.heard sender (record { sent = sent; at = now }) s.heard s.senders
      ∙ sym (ap (λ (b : Bool). length (remember (cond b None (Some (sender, record { sent = sent; at = now }))) (senders_of old.me calls))) e);
  marks = λ p source. marks_of_put old.marks page marks merged merges p source ∙ ap (λ (n : ℕ). max (cond (same_page page p) (mark_of marks source) 0) n) (s.marks p source) ∙ sym (ap (λ (b : Bool). max (cond b 0 (cond (same_page page p) (mark_of marks source) 0)) (high_heard old.me calls p source)) e);
  merged = λ p. merged_put old.marks page marks merged merges p ∙ ap (λ (ms : List MarkValue). joined (cond (same_page page p) marks []) ms) (s.merged p) ∙ sym (ap (λ (b : Bool). joined (cond b [] (cond (same_page page p) marks [])) (marks_heard old.me calls p)) e);
}))
