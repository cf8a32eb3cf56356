-- What a step and a run come to is one.
use Rattle.std.proofs.Common.{◌≡◌, ◌∙◌, ℕ, Bool, true, false, List, [], ◌∷◌, map, refl, sym, ap, ap₂, subst, inl, inr}
use Rattle.std.specs.Prelude.{Option, Some, None, MatchBool, MatchOption, is_some}
use Rattle.au_base.specs.declared.ask.Ask.{Ask}
use Rattle.au_base.specs.declared.ask.Ask.TheVariants.{Local, Logon, Sql, Logoff}
use Rattle.au_base.specs.declared.code.Code.{Code}
use Rattle.au_base.specs.declared.numbers.ClientNo.{ClientNo}
use Rattle.au_base.specs.declared.reply.Reply.{Reply}
use Rattle.au_base.specs.Codes.{NOT_LOGGED_ON, SESSION_PRESENT}
use Rattle.au_logon.specs.declared.admission.Admission.{Admission}
use Rattle.au_logon.specs.Admitting.{Admits, IsLocal}
use Rattle.au_ruling.specs.declared.ruling.Ruling.{Ruling}
use Rattle.au_ruling.specs.Kinds.{commits}
use Rattle.au_ruling.specs.Rulings.{code_reply}
use Rattle.au_txn.specs.declared.finals.Final.{Final}
use Rattle.au_txn.specs.Rows.{of_triple}
use Rattle.sql_ast.specs.declared.statement.Statement.{Statement}
use Rattle.au_step.specs.declared.session.Session.{Session}
use Rattle.au_step.specs.Abandoning.{abandoned}
use Rattle.au_step.specs.Runs.{Happening, Run, asks, ends}
use Rattle.au_step.specs.State.{OpenSession, State, stamp_of}
use Rattle.au_step.specs.Step.{AdmittedStep, AreFinalsOf, CodeStep, EndStep, Logged, LoggedStep, OpensStep, ReadStep, SessionStep, StatementStep, StepAt, UnreadStep, after_statement, decided_in, ground_of, is_crowded, session_of, statement_left, statement_logged, transaction_of}
use Rattle.au_step.proofs.Given.{OneEach}

-- both come to the same
abbrev pub Same : Reply → Reply → Logged → Logged → State → State → Type 0
Same a b l o n k = (a ≡ b) × (l ≡ o) × (n ≡ k)

-- a code
one_code : (m n k : State) (x y : Code) (a b : Reply) (l o : Logged) → x ≡ y → CodeStep m x a l n → CodeStep m y b o k → Same a b l o n k
one_code m n k x y a b l o same s t = (s.replies ∙ ap code_reply same ∙ sym t.replies, s.logs ∙ sym t.logs, s.same ∙ sym t.same)

-- what becomes of the client's rows
one_finals : OneEach → (m : State) (client : ClientNo) (first : Bool) (a b : List Final) → AreFinalsOf first m client a → AreFinalsOf first m client b → a ≡ b
one_finals one m client true a b s t = one.finals (map of_triple m.kept.rows) (transaction_of m.sessions client) a b s t
one_finals one m client false a b s t = s ∙ sym t

-- a statement
module _ (m : State) (session : Session) (x : Statement) (text : List ℕ) (stamp : ℕ) where
  -- what it leaves, and the state after it, by what becomes of the rows and what it comes to
  abbrev leaves : List Final → Ruling → Logged
  leaves finals r = statement_logged x session finals r (statement_left (decided_in m session.client x) session stamp x text r)

  abbrev goes_to : Ruling → Logged → State
  goes_to r logged = after_statement (decided_in m session.client x) session stamp r (statement_left (decided_in m session.client x) session stamp x text r) logged

  one_comes : OneEach → (n k : State) (a b : Reply) (l o : Logged) → StatementStep m session x text stamp a l n → StatementStep m session x text stamp b o k → Same a b l o n k
  one_comes one n k a b l o s t =
      let same : s.ruling ≡ t.ruling = one.ruling (ground_of (decided_in m session.client x) session x stamp) x s.ruling t.ruling s.comes t.comes in
      let rows : s.finals ≡ t.finals = one_finals one m session.client (commits x) s.finals t.finals s.are_finals t.are_finals in
      let leave : l ≡ o = s.logs ∙ ap₂ leaves rows same ∙ sym t.logs in
      (s.replies ∙ ap (λ (r : Ruling). r.reply) same ∙ sym t.replies, leave, s.next ∙ ap₂ goes_to same leave ∙ sym t.next)

one_statement : OneEach → (m n k : State) (session : Session) (x y : Statement) (text : List ℕ) (stamp : ℕ) (a b : Reply) (l o : Logged) → x ≡ y
    → StatementStep m session x text stamp a l n → StatementStep m session y text stamp b o k → Same a b l o n k
one_statement one m n k session x y text stamp a b l o is s t =
    one_comes m session y text stamp one n k a b l o (subst (λ (z : Statement). StatementStep m session z text stamp a l n) is s) t

one_read : OneEach → (m n k : State) (session : Session) (text : List ℕ) (stamp : ℕ) (a b : Reply) (l o : Logged) → ReadStep m session text stamp a l n → ReadStep m session text stamp b o k → Same a b l o n k
one_read one m n k session text stamp a b l o s t =
    one_statement one m n k session s.statement t.statement text stamp a b l o (one.statement text s.statement t.statement s.reads.reads t.reads.reads) s.step t.step

one_unread : OneEach → (m n k : State) (text : List ℕ) (a b : Reply) (l o : Logged) → UnreadStep m text a l n → UnreadStep m text b o k → Same a b l o n k
one_unread one m n k text a b l o s t = one_code m n k s.0 t.0 a b l o (one.code text s.0 t.0 s.1 t.1) s.2 t.2

one_text : OneEach → (m n k : State) (session : Session) (text : List ℕ) (stamp : ℕ) (a b : Reply) (l o : Logged) → SessionStep m session text stamp a l n → SessionStep m session text stamp b o k → Same a b l o n k
one_text one m n k session text stamp a b l o (inl s) (inl t) = one_read one m n k session text stamp a b l o s t
one_text one m n k session text stamp a b l o (inl s) (inr t) = absurd (one.apart text s.statement t.0 s.reads.reads t.1)
one_text one m n k session text stamp a b l o (inr s) (inl t) = absurd (one.apart text t.statement s.0 t.reads.reads s.1)
one_text one m n k session text stamp a b l o (inr s) (inr t) = one_unread one m n k text a b l o s t

one_sql : OneEach → (m n k : State) (found : Option OpenSession) (text : List ℕ) (stamp : ℕ) (a b : Reply) (l o : Logged)
    → MatchOption found (CodeStep m NOT_LOGGED_ON a l n) (λ seat. SessionStep m seat.session text stamp a l n)
    → MatchOption found (CodeStep m NOT_LOGGED_ON b o k) (λ seat. SessionStep m seat.session text stamp b o k) → Same a b l o n k
one_sql one m n k None text stamp a b l o s t = one_code m n k NOT_LOGGED_ON NOT_LOGGED_ON a b l o refl s t
one_sql one m n k (Some seat) text stamp a b l o s t = one_text one m n k seat.session text stamp a b l o s t

-- a logon
one_admitted : (m n k : State) (client : ClientNo) (stamp : ℕ) (x y : Admission) (a b : Reply) (l o : Logged) → x ≡ y
    → AdmittedStep m client stamp x a l n → AdmittedStep m client stamp y b o k → Same a b l o n k
one_admitted m n k client stamp x y a b l o is s t =
    let other : AdmittedStep m client stamp y a l n = subst (λ (z : Admission). AdmittedStep m client stamp z a l n) is s in
    (other.replies ∙ sym t.replies, other.logs ∙ sym t.logs, other.next ∙ sym t.next)

one_logon : (Is : Admission → Type 0) → ((x y : Admission) → Is x → Is y → x ≡ y) → (m n k : State) (client : ClientNo) (stamp : ℕ) (a b : Reply) (l o : Logged) (stands : Bool)
    → MatchBool stands (CodeStep m SESSION_PRESENT a l n) (OpensStep Is m client stamp a l n)
    → MatchBool stands (CodeStep m SESSION_PRESENT b o k) (OpensStep Is m client stamp b o k) → Same a b l o n k
one_logon Is only m n k client stamp a b l o true s t = one_code m n k SESSION_PRESENT SESSION_PRESENT a b l o refl s t
one_logon Is only m n k client stamp a b l o false s t = one_admitted m n k client stamp s.0 t.0 a b l o (only s.0 t.0 s.1 t.1) s.2 t.2

-- a logoff
one_logoff : (m n k : State) (found : Option OpenSession) (client : ClientNo) (stamp : ℕ) (a b : Reply) (l o : Logged)
    → MatchOption found (CodeStep m NOT_LOGGED_ON a l n) (λ seat. EndStep m seat.session client stamp a l n)
    → MatchOption found (CodeStep m NOT_LOGGED_ON b o k) (λ seat. EndStep m seat.session client stamp b o k) → Same a b l o n k
one_logoff m n k None client stamp a b l o s t = one_code m n k NOT_LOGGED_ON NOT_LOGGED_ON a b l o refl s t
one_logoff m n k (Some seat) client stamp a b l o s t = (s.replies ∙ sym t.replies, s.logs ∙ sym t.logs, s.next ∙ sym t.next)

one_local : (crowded : Bool) (x y : Admission) → IsLocal crowded x → IsLocal crowded y → x ≡ y
one_local crowded x y s t = s ∙ sym t

-- a step has one reply, leaves one thing to be kept, and has one next state
pub one_logged : OneEach → (m n k : State) (client : ClientNo) (ask : Ask) (stamp : ℕ) (a b : Reply) (l o : Logged)
    → LoggedStep m client ask stamp a l n → LoggedStep m client ask stamp b o k → (a ≡ b) × (l ≡ o) × (n ≡ k)
one_logged one m n k client Local stamp a b l o s t =
    one_logon (IsLocal (is_crowded m)) (one_local (is_crowded m)) m n k client stamp a b l o (is_some (session_of m.sessions client)) s t
one_logged one m n k client (Logon user password) stamp a b l o s t =
    one_logon (Admits m.kept.users m.kept.grants (is_crowded m) user password) (one.admission m.kept.users m.kept.grants (is_crowded m) user password)
    m n k client stamp a b l o (is_some (session_of m.sessions client)) s t
one_logged one m n k client (Sql text) stamp a b l o s t = one_sql one m n k (session_of m.sessions client) text stamp a b l o s t
one_logged one m n k client Logoff stamp a b l o s t = one_logoff m n k (session_of m.sessions client) client stamp a b l o s t

pub one_step : OneEach → (m n k : State) (client : ClientNo) (ask : Ask) (stamp : ℕ) (a b : Reply)
    → StepAt m client ask stamp a n → StepAt m client ask stamp b k → (a ≡ b) × (n ≡ k)
one_step one m n k client ask stamp a b s t =
    let same = one_logged one m n k client ask stamp a b s.0 t.0 s.1 t.1 in (same.0, same.2)

-- a run has one list of replies and one end
pub one_run : OneEach → (m n k : State) (happenings : List Happening) (rs ss : List Reply) → Run m happenings rs n → Run m happenings ss k → (rs ≡ ss) × (n ≡ k)
one_run one m n k [] [] [] x y = (refl, x ∙ sym y)
one_run one m n k (asks e ∷ more) (r ∷ rs) (s ∷ ss) x y =
    let first : (r ≡ s) × (x.0 ≡ y.0) = one_step one m x.0 y.0 e.client e.ask (stamp_of m e.reading) r s x.1 y.1 in
    let rest : (rs ≡ ss) × (n ≡ k) = one_run one y.0 n k more rs ss (subst (λ (b : State). Run b more rs n) first.1 x.2) y.2 in
    (cc (first.0, rest.0), rest.1)
one_run one m n k (ends client ∷ more) rs ss x y = one_run one (abandoned client m) n k more rs ss x y
one_run one m n k [] (r ∷ rs) ss x y = absurd x
one_run one m n k [] [] (s ∷ ss) x y = absurd y
one_run one m n k (asks e ∷ more) [] ss x y = absurd x
one_run one m n k (asks e ∷ more) (r ∷ rs) [] x y = absurd y
