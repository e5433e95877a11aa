-- A text is sent piece by piece.
use Rattle.patr_shell.proofs.Names.{OnErr, IfErr, Appends, Keeps, Appends-nil, Appends-trans, Appends-kept, IsSent, AppendsFront, HasReached, AnswerFault}
use Rattle.std.proofs.Common.{◌≡◌, ℕ, List, [], ◌++◌, Result, Ok, Err, Option, take, drop, refl, sym, ◌∙◌, ap, append_assoc, append-nil, take-append-drop}
use Rattle.patr_shell.specs.declared.session.AnswerFault.TheVariants.{Write, Memory}

pub sent_none : (a : Option (List ℕ)) (text : List ℕ) → IsSent a a text text
sent_none a text = record { front = []; split = refl; appended = Appends-nil a }

pub sent_more : (a b c : Option (List ℕ)) (text rest after : List ℕ) (n : ℕ) → IsSent a b text rest → Appends b c (take n rest) → after ≡ drop n rest → IsSent a c text after
sent_more a b c text rest after n sent more is = record {
  front = sent.front ++ take n rest;
  split =
      sent.split
      ∙ ap (λ (l : List ℕ). sent.front ++ l) (sym (take-append-drop n rest))
      ∙ sym (append_assoc sent.front (take n rest) (drop n rest))
      ∙ ap (λ (l : List ℕ). (sent.front ++ take n rest) ++ l) (sym is);
  appended = Appends-trans a b c sent.front (take n rest) sent.appended more;
}

pub sent_kept : (a b c : Option (List ℕ)) (text rest : List ℕ) → IsSent a b text rest → Keeps b c → IsSent a c text rest
sent_kept a b c text rest sent kept = record { front = sent.front; split = sent.split; appended = Appends-kept a b c sent.front sent.appended kept }

-- what was appended whole, and nothing behind it
pub sent_whole : (a b : Option (List ℕ)) (text : List ℕ) → Appends a b text → IsSent a b text []
sent_whole a b text appended = record { front = text; split = sym (append-nil text); appended = appended }

-- a fact that holds anyway
pub OnErr-always : {T E P : Type 0} (r : Result T E) → P → OnErr r P
OnErr-always (Ok x) p = tt
OnErr-always (Err e) p = p

pub IfErr-always : {T E : Type 0} (r : Result T E) (P : E → Type 0) → ((e : E) → P e) → IfErr r P
IfErr-always (Ok x) P p = tt
IfErr-always (Err e) P p = p e

-- a front that follows what was sent whole
pub front_behind : (a b c : Option (List ℕ)) (text more : List ℕ) → Appends a b text → AppendsFront b c more → AppendsFront a c (text ++ more)
front_behind a b c text more sent front = (
  front.0,
  record {
    front = text ++ front.1.front;
    split = ap (λ (l : List ℕ). text ++ l) front.1.split ∙ sym (append_assoc text front.1.front front.0);
    appended = Appends-trans a b c text front.1.front sent front.1.appended;
  },
)

pub front_longer : (a b : Option (List ℕ)) (text more : List ℕ) → AppendsFront a b text → AppendsFront a b (text ++ more)
front_longer a b text more front = (
  front.0 ++ more,
  record {
    front = front.1.front;
    split = ap (λ (l : List ℕ). l ++ more) front.1.split ∙ append_assoc front.1.front front.0 more;
    appended = front.1.appended;
  },
)

pub whole_front : (a b : Option (List ℕ)) (text : List ℕ) → Appends a b text → AppendsFront a b text
whole_front a b text sent = ([], sent_whole a b text sent)

pub no_front : (a : Option (List ℕ)) (text : List ℕ) → AppendsFront a a text
no_front a text = (text, sent_none a text)

-- ---- what reached the sink before a fault

pub reached_none : (fault : AnswerFault) (a : Option (List ℕ)) → HasReached fault a a []
reached_none Write a = ([], sent_none a [])
reached_none Memory a = Appends-nil a

pub reached_whole : (fault : AnswerFault) (a b : Option (List ℕ)) (text : List ℕ) → Appends a b text → HasReached fault a b text
reached_whole Write a b text sent = whole_front a b text sent
reached_whole Memory a b text sent = sent

pub reached_behind : (fault : AnswerFault) (a b c : Option (List ℕ)) (text more : List ℕ) → Appends a b text → HasReached fault b c more → HasReached fault a c (text ++ more)
reached_behind Write a b c text more sent reached = front_behind a b c text more sent reached
reached_behind Memory a b c text more sent reached = Appends-trans a b c text more sent reached

pub reached_front : (fault : AnswerFault) (a b : Option (List ℕ)) (text : List ℕ) → HasReached fault a b text → AppendsFront a b text
reached_front Write a b text reached = reached
reached_front Memory a b text reached = whole_front a b text reached
