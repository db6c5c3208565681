-- The text that a reader of lumps shows is answered as the one that came: texts that are alike have the same answers.
-- Assumes nothing.
use mathlib.Core.Path.{◌≡◌, refl, ap}
use mathlib.Core.List.{List}
use Prim.Native.Nat.{ℕ, ◌<◌}
use native.Mathlib.Omega.{arith}
use lib.ListN.{length}
use borrow.Author.Tests.{le-leb}
use Rattle.answers.specs.declared.Refusal.{Refusal}
use Rattle.answers.specs.Refusal.{refusal}
use Rattle.std.specs.declared.cmp.Ordering.{Ordering as Order}
use Rattle.version_reading.specs.declared.text.Verdict.{Verdict}
use Rattle.version_reading.specs.declared.text.Verdict.TheVariants.{Accepted, Refused}
use Rattle.version_reading.specs.declared.text.VersionReading.{VersionReading}
use Rattle.version_reading.specs.Reading.{longest, version_of}
use Rattle.version_reading.specs.Segment.{segment_bytes, segment_text}
use Rattle.version_reading.specs.Value.{Value}
use Rattle.fragment_rules.specs.Lent.{Alike}
use Rattle.fragment_rules.proofs.Lumps.{long_reading}
use Rattle.version_normal.specs.Normal.{answer_to, filled_to, normal_text}
use Rattle.version_order.specs.Compared.{judged, compared}
use Rattle.version_word.specs.Worded.{word_answer}
use Rattle.list_clauses.specs.List.{Listing, refused, clauses, list_of}
use Rattle.list_accepting.specs.Accept.{accepted, judged_by}
use Rattle.table_reading.specs.Table.{Tabled, refused as bad, ranges, table_of}
use Rattle.table_reading.specs.Lookup.{looked, looked_up}
use Rattle.register_entries.specs.declared.entry.Entry.{Entry}
use Rattle.register_rules.specs.Fit.{fit_of}
use Rattle.register_rules.proofs.Exactly.{refused_alike}

-- a question whose answer to every two texts that are too long is the same
by_alike : {A : Type 0} {s t : List ℕ} (ask : List ℕ → A) → (longest < length s → longest < length t → ask s ≡ ask t) → Alike s t → ask s ≡ ask t
by_alike ask long (Alike.same e) = ap ask e
by_alike ask long (Alike.both_long h k) = long h k

verdict : (s : List ℕ) → longest < length s → (version_of s).verdict ≡ Refused (refusal 8 longest)
verdict s h = ap (λ (r : VersionReading). r.verdict) (long_reading s h)

-- a version that is refused is not looked at: where something else is judged before it, by that
second_refused : (first : Verdict) (x : Refusal) (o p : Order) → judged first (Refused x) o ≡ judged first (Refused x) p
second_refused (Refused y) x o p = refl
second_refused Accepted x o p = refl

candidate_refused : (list : Listing) (x : Refusal) (v w : Value) → judged_by list (Refused x) v ≡ judged_by list (Refused x) w
candidate_refused (refused number place) x v w = refl
candidate_refused (clauses cs) x v w = refl

sought_refused : (table : Tabled) (x : Refusal) (v w : Value) → looked_up table (Refused x) v ≡ looked_up table (Refused x) w
sought_refused (bad number place) x v w = refl
sought_refused (ranges T) x v w = refl

module _ (s t : List ℕ) (alike : Alike s t) where
  pub alike_normal : (buffer : List ℕ) → answer_to (version_of s).verdict (normal_text s) buffer ≡ answer_to (version_of t).verdict (normal_text t) buffer
  alike_normal buffer =
      by_alike (λ x. answer_to (version_of x).verdict (normal_text x) buffer) (λ h k. rw (verdict s h, verdict t k)) alike

  pub alike_filled : (buffer : List ℕ) → filled_to (version_of s).verdict (normal_text s) buffer ≡ filled_to (version_of t).verdict (normal_text t) buffer
  alike_filled buffer =
      by_alike (λ x. filled_to (version_of x).verdict (normal_text x) buffer) (λ h k. rw (verdict s h, verdict t k)) alike

  pub alike_first : (u : List ℕ) → compared s u ≡ compared t u
  unfolding compared
  alike_first u = by_alike (λ x. compared x u) (λ h k. rw (verdict s h, verdict t k)) alike

  pub alike_second : (u : List ℕ) → compared u s ≡ compared u t
  unfolding compared
  alike_second u = by_alike (compared u) (λ h k. rw (verdict s h, verdict t k) (second_refused (version_of u).verdict _ _ _)) alike

  pub alike_word : word_answer s ≡ word_answer t
  unfolding word_answer
  alike_word = by_alike word_answer (λ h k. rw (verdict s h, verdict t k)) alike

  pub alike_segment : (index : ℕ) → segment_text s index ≡ segment_text t index
  unfolding segment_text segment_bytes
  alike_segment index = by_alike (λ x. segment_text x index) (λ h k. rw (long_reading s h, long_reading t k, le-leb 0 index (omega arith))) alike

  pub alike_accepts : (list : List ℕ) → accepted list s ≡ accepted list t
  unfolding accepted
  alike_accepts list = by_alike (accepted list) (λ h k. rw (verdict s h, verdict t k) (candidate_refused (list_of list) _ _ _)) alike

  pub alike_lookup : (table : List ℕ) → looked table s ≡ looked table t
  unfolding looked
  alike_lookup table = by_alike (looked table) (λ h k. rw (verdict s h, verdict t k) (sought_refused (table_of table) _ _ _)) alike

  pub alike_fit : (es : List Entry) (buffer : List ℕ) → fit_of es buffer s ≡ fit_of es buffer t
  alike_fit es buffer = by_alike (fit_of es buffer) (λ h k. refused_alike es buffer s t _ (verdict s h) (verdict t k)) alike
