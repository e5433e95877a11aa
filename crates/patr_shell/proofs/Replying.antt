-- Replies to lines, one list behind another, and how much of a line its reply depends on.
use Rattle.std.proofs.Common.{◌≡◌, ◌≤◌, ◌<◌, ℕ, List, [], ◌∷◌, ◌++◌, Option, Some, true, false, length, take, leb, refl, sym, ◌∙◌, ap, subst, arith, append-nil, append_assoc, inl, inr, ◌⊎◌}
use Rattle.patr_shell.proofs.Names.{nat_tests, length-take-le, take_all, Appends, Keeps, Appends-nil, Appends-trans, Appends-kept, solved, lines_with_commands, Answered, Spoken, grounds, state_seen, AppendsFront, IsAnswer, HasQuit, HasAnswered, HasEnded, HasReached, HasBegun, Reply, AnswerFault}
use Rattle.std.specs.String.{string_bytes}
use Rattle.patr_model.specs.Session as session
use Rattle.patr_model.specs.Session.{Numbering, AgreesWith, Grounds, IsQuit, IsLineReply, too_long, not_text, spelled, Replied, without_cr}
use Rattle.patr_shell.specs.declared.state.State.{State}
use Rattle.patr_shell.specs.declared.session.AnswerFault.TheVariants.{Write}
use Rattle.patr_shell.proofs.Ends.{longer_by_one}
use Rattle.patr_shell.proofs.Fronts.{reached_none, reached_whole, reached_behind}

-- ---- a line of which no more than its first 4098 bytes matter

-- one too long line is answered as another
long_reply : (s : Grounds) (st end : session.State) (x y text : List ℕ) → 4096 < length x → 4096 < length y → IsLineReply solved lines_with_commands s st x text end → IsLineReply solved lines_with_commands s st y text end
long_reply s st end x y text h k (too_long l e f) = too_long k e f
long_reply s st end x y text h k (not_text l n e f) = absurd (omega (arith, h, l))
long_reply s st end x y text h k (spelled l u r) = absurd (omega (arith, h, l))

-- lines with the same first bytes are one, or both are too long
long_too : (xs ys : List ℕ) → take 4098 xs ≡ take 4098 ys → 4098 ≤ length xs → 4098 ≤ length ys
long_too xs ys same long = elim (leb 4098 (length ys)) as (λ t. leb 4098 (length ys) ≡ t → 4098 ≤ length ys) [
  | true ↦ λ test. grind (arith, nat_tests)
  | false ↦ λ test.
      let short : length ys ≤ 4098 = grind (arith, nat_tests) in
      let as_long : length (take 4098 xs) ≡ 4098 = length-take-le 4098 xs long in
      let all : length (take 4098 xs) ≡ length ys = ap length (same ∙ take_all 4098 ys short) in
      omega arith
] refl

one_line : (xs ys : List ℕ) → take 4098 xs ≡ take 4098 ys → length xs < 4098 → xs ≡ ys
one_line xs ys same short = elim (leb 4098 (length ys)) as (λ t. leb 4098 (length ys) ≡ t → xs ≡ ys) [
  | true ↦ λ test.
      let long : 4098 ≤ length ys = grind (arith, nat_tests) in
      absurd (omega (arith, long_too ys xs (sym same) long))
  | false ↦ λ test.
      let other : length ys ≤ 4098 = grind (arith, nat_tests) in
      sym (take_all 4098 xs (omega arith)) ∙ same ∙ take_all 4098 ys other
] refl

pub one_or_long : (xs ys : List ℕ) → take 4098 xs ≡ take 4098 ys → (xs ≡ ys) ⊎ ((4096 < length (without_cr xs)) × (4096 < length (without_cr ys)))
one_or_long xs ys same = elim (leb 4098 (length xs)) as (λ t. leb 4098 (length xs) ≡ t → (xs ≡ ys) ⊎ ((4096 < length (without_cr xs)) × (4096 < length (without_cr ys)))) [
  | true ↦ λ test.
      let long : 4098 ≤ length xs = grind (arith, nat_tests) in
      let other = long_too xs ys same long in
      inr (omega (arith, longer_by_one xs), omega (arith, longer_by_one ys, other))
  | false ↦ λ test. let short : length xs < 4098 = grind (arith, nat_tests) in inl (one_line xs ys same short)
] refl

same_reply : (s : Grounds) (st end : session.State) (xs ys text : List ℕ) → take 4098 xs ≡ take 4098 ys → IsLineReply solved lines_with_commands s st (without_cr xs) text end → IsLineReply solved lines_with_commands s st (without_cr ys) text end
same_reply s st end xs ys text same reply = elim (one_or_long xs ys same) [
  | inl is ↦ subst (λ l. IsLineReply solved lines_with_commands s st (without_cr l) text end) is reply
  | inr long ↦ long_reply s st end (without_cr xs) (without_cr ys) text long.0 long.1 reply
]

-- a line that is too long ends no session
same_quit : (xs ys : List ℕ) → take 4098 xs ≡ take 4098 ys → IsQuit lines_with_commands (without_cr xs) → IsQuit lines_with_commands (without_cr ys)
same_quit xs ys same stops = elim (one_or_long xs ys same) [
  | inl is ↦ subst (λ l. IsQuit lines_with_commands (without_cr l)) is stops
  | inr long ↦ let short = stops.0 in absurd (omega (arith, long.0, short))
]

-- ---- replies, one list behind another

pub quit_longer : (ls ms : List (List ℕ)) → HasQuit ls → HasQuit (ls ++ ms)
quit_longer [] ms stops = absurd stops
quit_longer (l ∷ ls) ms (inl here) = inl here
quit_longer (l ∷ ls) ms (inr later) = inr (quit_longer ls ms later)

quit_behind : (ls ms : List (List ℕ)) → HasQuit ms → HasQuit (ls ++ ms)
quit_behind [] ms stops = stops
quit_behind (l ∷ ls) ms stops = inr (quit_behind ls ms stops)

-- a line of both ends the session, so one of one of them does
quit_of_two : (ls ms : List (List ℕ)) → HasQuit (ls ++ ms) → (HasQuit ls → ⊥) → (HasQuit ms → ⊥) → ⊥
quit_of_two [] ms stops first second = second stops
quit_of_two (l ∷ ls) ms (inl here) first second = first (inl here)
quit_of_two (l ∷ ls) ms (inr later) first second = quit_of_two ls ms later (λ q. first (inr q)) second

quit_same : (xs ys : List ℕ) → take 4098 xs ≡ take 4098 ys → (ls : List (List ℕ)) → HasQuit (without_cr xs ∷ ls) → HasQuit (without_cr ys ∷ ls)
quit_same xs ys same ls (inl here) = inl (same_quit xs ys same here)
quit_same xs ys same ls (inr later) = inr later

module _ (s : Grounds) where
  abbrev Go : session.State → List (List ℕ) → List ℕ → session.State → Type 0
  Go st ls text end = Answered solved lines_with_commands s st ls text end

  abbrev End : session.State → List (List ℕ) → List ℕ → Type 0
  End st ls text = Replied solved lines_with_commands s st ls text true

  go_on : (st mid end : session.State) (ls ms : List (List ℕ)) (x y : List ℕ) → Go st ls x mid → Go mid ms y end → Go st (ls ++ ms) (x ++ y) end
  go_on st mid end [] ms x y first second = subst (λ l. Go st ms (l ++ y) end) (sym first.0) (subst (λ m. Go m ms y end) first.1 second)
  go_on st mid end (l ∷ ls) ms x y first second =
      (first.0, first.1, first.2, first.3 ++ y, first.4, go_on first.2 mid end ls ms first.3 y first.5 second, ap (λ (t : List ℕ). t ++ y) first.6 ∙ append_assoc first.1 first.3 y)

  end_behind : (st mid : session.State) (ls ms : List (List ℕ)) (x y : List ℕ) → Go st ls x mid → End mid ms y → End st (ls ++ ms) (x ++ y)
  end_behind st mid [] ms x y first second = subst (λ l. End st ms (l ++ y)) (sym first.0) (subst (λ m. End m ms y) first.1 second)
  end_behind st mid (l ∷ ls) ms x y first second =
      inr (first.0, first.1, first.2, first.3 ++ y, first.4, end_behind first.2 mid ls ms first.3 y first.5 second, ap (λ (t : List ℕ). t ++ y) first.6 ∙ append_assoc first.1 first.3 y)

  -- lines that were answered, and behind which nothing comes, are replied to up to their end
  pub replied : (st end : session.State) (ls : List (List ℕ)) (text : List ℕ) → Go st ls text end → Replied solved lines_with_commands s st ls text false
  replied st end [] text h = (h.0, refl)
  replied st end (l ∷ ls) text h = inr (h.0, h.1, h.2, h.3, h.4, replied h.2 end ls h.3 h.5, h.6)

  -- what stands behind the line that ends the session does not matter
  end_longer : (st : session.State) (ls ms : List (List ℕ)) (x : List ℕ) → End st ls x → End st (ls ++ ms) x
  end_longer st [] ms x h = let e : true ≡ false = h.1 in cc
  end_longer st (l ∷ ls) ms x (inl h) = inl h
  end_longer st (l ∷ ls) ms x (inr h) = inr (h.0, h.1, h.2, h.3, h.4, end_longer h.2 ls ms h.3 h.5, h.6)

  alone : (st end : session.State) (l x : List ℕ) → (IsQuit lines_with_commands l → ⊥) → IsLineReply solved lines_with_commands s st l x end → Go st (l ∷ []) x end
  alone st end l x other reply = (other, x, end, [], reply, (refl, refl), sym (append-nil x))

  -- the first line is another with the same replies
  module _ (xs ys : List ℕ) (same : take 4098 xs ≡ take 4098 ys) (ls : List (List ℕ)) where
    go_same : (st end : session.State) (text : List ℕ) → Go st (without_cr xs ∷ ls) text end → Go st (without_cr ys ∷ ls) text end
    go_same st end text h = (λ stops. h.0 (same_quit ys xs (sym same) stops), h.1, h.2, h.3, same_reply s st h.2 xs ys h.1 same h.4, h.5, h.6)

    end_same : (st : session.State) (text : List ℕ) → End st (without_cr xs ∷ ls) text → End st (without_cr ys ∷ ls) text
    end_same st text (inl h) = inl (same_quit xs ys same h.0, h.1, h.2)
    end_same st text (inr h) = inr (λ stops. h.0 (same_quit ys xs (sym same) stops), h.1, h.2, h.3, same_reply s st h.2 xs ys h.1 same h.4, h.5, h.6)

-- ---- what reached the sink

-- what came of lines: all were answered, one of them ended the session, or the first were answered and then a fault came
pub data What : Type 0 where
  Whole : State → What
  Quits : What
  Breaks : AnswerFault → What

-- what came of the lines, by what reached the sink
abbrev pub Has : Spoken → What → State → List (List ℕ) → Option (List ℕ) → Option (List ℕ) → Type 0
Has spoken (Whole end) st ls a b = HasAnswered spoken st ls end a b
Has spoken Quits st ls a b = HasEnded spoken st ls a b
Has spoken (Breaks fault) st ls a b = HasBegun spoken st ls fault a b

module _ (spoken : Spoken) where
  -- the first line is another with the same replies
  module _ (xs ys : List ℕ) (same : take 4098 xs ≡ take 4098 ys) (ls : List (List ℕ)) (st : State) (a b : Option (List ℕ)) where
    answered_same : (end : State) → HasAnswered spoken st (without_cr xs ∷ ls) end a b → HasAnswered spoken st (without_cr ys ∷ ls) end a b
    answered_same end h = record {
      text = h.text;
      replies = λ N agrees. go_same (grounds N spoken) xs ys same ls (state_seen st) (state_seen end) h.text (h.replies N agrees);
      sent = h.sent;
      goes_on = λ stops. h.goes_on (quit_same ys xs (sym same) ls stops);
    }

    ended_same : HasEnded spoken st (without_cr xs ∷ ls) a b → HasEnded spoken st (without_cr ys ∷ ls) a b
    ended_same h = record {
      text = h.text;
      replies = λ N agrees. end_same (grounds N spoken) xs ys same ls (state_seen st) h.text (h.replies N agrees);
      sent = h.sent;
      quit = quit_same xs ys same ls h.quit;
    }

    begun_from : (fault : AnswerFault) (some others : List (List ℕ)) (text : List ℕ) (end : State) → without_cr xs ∷ ls ≡ some ++ others
        → ((N : Numbering) → AgreesWith N spoken.texts → Answered solved lines_with_commands (grounds N spoken) (state_seen st) some text (state_seen end)) → HasReached fault a b text
        → HasBegun spoken st (without_cr ys ∷ ls) fault a b
    begun_from fault [] others text end split replies front = record { some = []; others = without_cr ys ∷ ls; split = refl; text = text; end = end; replies = replies; front = front }
    begun_from fault (l ∷ some) others text end split replies front =
        let first : l ≡ without_cr xs = cc in
        let rest : ls ≡ some ++ others = cc in
        record {
          some = without_cr ys ∷ some;
          others = others;
          split = ap (λ (t : List (List ℕ)). without_cr ys ∷ t) rest;
          text = text;
          end = end;
          replies = λ N agrees. go_same (grounds N spoken) xs ys same some (state_seen st) (state_seen end) text
              (subst (λ t. Answered solved lines_with_commands (grounds N spoken) (state_seen st) (t ∷ some) text (state_seen end)) first (replies N agrees));
          front = front;
        }

    begun_same : (fault : AnswerFault) → HasBegun spoken st (without_cr xs ∷ ls) fault a b → HasBegun spoken st (without_cr ys ∷ ls) fault a b
    begun_same fault h = begun_from fault h.some h.others h.text h.end h.split h.replies h.front

    pub has_same : (what : What) → Has spoken what st (without_cr xs ∷ ls) a b → Has spoken what st (without_cr ys ∷ ls) a b
    has_same (Whole end) h = answered_same end h
    has_same Quits h = ended_same h
    has_same (Breaks fault) h = begun_same fault h

  pub answered_none : (st : State) (a : Option (List ℕ)) → HasAnswered spoken st [] st a a
  answered_none st a = record { text = []; replies = λ N agrees. (refl, refl); sent = Appends-nil a; goes_on = λ stops. stops }

  pub begun_none : (st : State) (ls : List (List ℕ)) (fault : AnswerFault) (a : Option (List ℕ)) → HasBegun spoken st ls fault a a
  begun_none st ls fault a = record { some = []; others = ls; split = refl; text = []; end = st; replies = λ N agrees. (refl, refl); front = reached_none fault a }

  pub ended_one : (st : State) (l : List ℕ) (a : Option (List ℕ)) → IsQuit lines_with_commands l → HasEnded spoken st (l ∷ []) a a
  ended_one st l a stops = record { text = []; replies = λ N agrees. inl (stops, refl, refl); sent = Appends-nil a; quit = inl stops }

  -- what a trimmed line came to is a reply to the line
  pub line_reply : (st : State) (trimmed l x : List ℕ) (r : Reply) → trimmed ≡ l → x ≡ string_bytes r.text → IsAnswer spoken st trimmed (Some r)
      → (IsQuit lines_with_commands l → ⊥)
      × ((N : Numbering) → AgreesWith N spoken.texts → IsLineReply solved lines_with_commands (grounds N spoken) (state_seen st) l x (state_seen r.state))
  line_reply st trimmed l x r line text answer = (
    subst (λ b. IsQuit lines_with_commands b → ⊥) line answer.0,
    λ N agrees. subst (λ b. IsLineReply solved lines_with_commands (grounds N spoken) (state_seen st) b x (state_seen r.state)) line
        (subst (λ t. IsLineReply solved lines_with_commands (grounds N spoken) (state_seen st) trimmed t (state_seen r.state)) (sym text) (answer.1 N agrees)),
  )

  -- one line is answered
  module _ (st end : State) (l x : List ℕ) (a b : Option (List ℕ)) (other : IsQuit lines_with_commands l → ⊥)
      (reply : (N : Numbering) → AgreesWith N spoken.texts → IsLineReply solved lines_with_commands (grounds N spoken) (state_seen st) l x (state_seen end)) where
    pub answered_one : Appends a b x → HasAnswered spoken st (l ∷ []) end a b
    answered_one sent = record {
      text = x;
      replies = λ N agrees. alone (grounds N spoken) (state_seen st) (state_seen end) l x other (reply N agrees);
      sent = sent;
      goes_on = λ stops. elim stops [ inl this ↦ other this | inr later ↦ later ];
    }

    pub begun_one : AppendsFront a b x → HasBegun spoken st (l ∷ []) Write a b
    begun_one front = record {
      some = l ∷ [];
      others = [];
      split = refl;
      text = x;
      end = end;
      replies = λ N agrees. alone (grounds N spoken) (state_seen st) (state_seen end) l x other (reply N agrees);
      front = front;
    }

  -- and then nothing was written
  pub answered_kept : (st end : State) (ls : List (List ℕ)) (a b c : Option (List ℕ)) → HasAnswered spoken st ls end a b → Keeps b c → HasAnswered spoken st ls end a c
  answered_kept st end ls a b c h kept = record { text = h.text; replies = h.replies; sent = Appends-kept a b c h.text h.sent kept; goes_on = h.goes_on }

  pub begun_of_answered : (st end : State) (ls : List (List ℕ)) (fault : AnswerFault) (a b : Option (List ℕ)) → HasAnswered spoken st ls end a b → HasBegun spoken st ls fault a b
  begun_of_answered st end ls fault a b h =
      record { some = ls; others = []; split = sym (append-nil ls); text = h.text; end = end; replies = h.replies; front = reached_whole fault a b h.text h.sent }

  pub begun_longer : (st : State) (ls ms : List (List ℕ)) (fault : AnswerFault) (a b : Option (List ℕ)) → HasBegun spoken st ls fault a b → HasBegun spoken st (ls ++ ms) fault a b
  begun_longer st ls ms fault a b h = record {
    some = h.some;
    others = h.others ++ ms;
    split = ap (λ (l : List (List ℕ)). l ++ ms) h.split ∙ append_assoc h.some h.others ms;
    text = h.text;
    end = h.end;
    replies = h.replies;
    front = h.front;
  }

  pub ended_longer : (st : State) (ls ms : List (List ℕ)) (a b : Option (List ℕ)) → HasEnded spoken st ls a b → HasEnded spoken st (ls ++ ms) a b
  ended_longer st ls ms a b h = record {
    text = h.text;
    replies = λ N agrees. end_longer (grounds N spoken) (state_seen st) ls ms h.text (h.replies N agrees);
    sent = h.sent;
    quit = quit_longer ls ms h.quit;
  }

  -- behind lines that are answered
  module _ (st mid : State) (ls ms : List (List ℕ)) (a b c : Option (List ℕ)) (h : HasAnswered spoken st ls mid a b) where
    answered_behind : (end : State) → HasAnswered spoken mid ms end b c → HasAnswered spoken st (ls ++ ms) end a c
    answered_behind end k = record {
      text = h.text ++ k.text;
      replies = λ N agrees. go_on (grounds N spoken) (state_seen st) (state_seen mid) (state_seen end) ls ms h.text k.text (h.replies N agrees) (k.replies N agrees);
      sent = Appends-trans a b c h.text k.text h.sent k.sent;
      goes_on = λ stops. quit_of_two ls ms stops h.goes_on k.goes_on;
    }

    ended_behind : HasEnded spoken mid ms b c → HasEnded spoken st (ls ++ ms) a c
    ended_behind k = record {
      text = h.text ++ k.text;
      replies = λ N agrees. end_behind (grounds N spoken) (state_seen st) (state_seen mid) ls ms h.text k.text (h.replies N agrees) (k.replies N agrees);
      sent = Appends-trans a b c h.text k.text h.sent k.sent;
      quit = quit_behind ls ms k.quit;
    }

    begun_behind : (fault : AnswerFault) → HasBegun spoken mid ms fault b c → HasBegun spoken st (ls ++ ms) fault a c
    begun_behind fault k = record {
      some = ls ++ k.some;
      others = k.others;
      split = ap (λ (l : List (List ℕ)). ls ++ l) k.split ∙ sym (append_assoc ls k.some k.others);
      text = h.text ++ k.text;
      end = k.end;
      replies = λ N agrees. go_on (grounds N spoken) (state_seen st) (state_seen mid) (state_seen k.end) ls k.some h.text k.text (h.replies N agrees) (k.replies N agrees);
      front = reached_behind fault a b c h.text k.text h.sent k.front;
    }

    pub has_behind : (what : What) → Has spoken what mid ms b c → Has spoken what st (ls ++ ms) a c
    has_behind (Whole end) k = answered_behind end k
    has_behind Quits k = ended_behind k
    has_behind (Breaks fault) k = begun_behind fault k
