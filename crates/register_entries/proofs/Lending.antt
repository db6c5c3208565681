-- A local array is lent in part as a `&` slice, `&a[..k]`, and is room again when the loan is over. For a walk by hand; R is the type of the elements, any that has one machine value.
--     apart        the local's cell, and what the array owns, are its elements side by side, and there are n
--     lends_part   of those the first k are lent for κ, with tokens of lifetimes within it: what a `&κ [T]` on them owns, the lender's part of that, the elements after them, and the tokens
--     part_back    κ is over: the local is room again
--     field_array  an array of a declared type, as a field of a struct owns it, is what the array owns by itself: the field has a tuple for each element
-- Assumes nothing.
use mathlib.Core.Path.{◌≡◌, refl, sym, ◌∙◌, ap}
use Prim.Native.Nat.{ℕ}
use mathlib.Core.List.{List, [], ◌∷◌, ◌++◌, map}
use lib.ListN.{length, take, drop as drop-list, take-append-drop, length-map}
use seplogic.Ra.Ura.{Ura}
use base.Fraction.{full_share}
use mir.Syntax.{Ty, Lifetime, ty_array}
use mir.Val.{Val}
use base.Logic.{ent, sep, guard}
use base.Fml.{Incl, Lft, Fml, fsep, fat, fdead, flent}
use types.Logic.{Logic, sem, lfts}
use types.Kit.{‵, raw, ◌⊛◌, later, ◌$◌, ◌∵◌, !, qed, by, move, keep, drop, use1, use2, split, rewrite, check, fsplit, fjoin, fpick, fpack, feq_l, feq_i, await, updating, now as at_once, done}
use types.SemTy.{cells}
use types.Share.{arr_parts}
use types.Tokens.{lent_back}
use borrow.Rule.Array.Share.{Room-take}
use borrow.Table.Elements.{at, cut_app, join_app}
use denote.RattleType.{RattleType}
use denote.Array.{each, array_val, shape, Array}
use denote.ArrayMemory.{Single, Array-apart, Array-whole}
use denote.Index.{row, whole_out, whole_in}
use denote.Lend.{lends_shr_slice}
use denote.Memory.{cell_at, lone, mem, part_at, part_of, shared_of, shares}
use denote.Shares.{SharesAsFrom}
use ghost.Rules.{Toks, span}
use denote.Slice.{Room, ShrSlice, slice_val}
use denote.Struct.Declared as Declared
use denote.Struct.Declared.{Declared}

module _ {M : Type 1} {𝓤 : Ura M} (𝓛 : Logic 𝓤) (R : RattleType) (n : ℕ) (xs : List R.Denot) (b : ℕ) where
  open 𝓛 use {H, A}

  abbrev pub array_ty : Ty
  array_ty = ty_array (lone R.mir) n

  pub apart : Single R.mir → (v : Val) → ent 𝓤 (sep 𝓤 (H.at full_share array_ty b 0 v) (sem 𝓛 ((Array R n).own_val xs (v ∷ [])))) (guard 𝓤 (length xs ≡ n) (sem 𝓛 (cells (mem R) xs b 0)))
  unfolding part_of
  apart one v =
      qed 𝓛 (‵ (fat full_share array_ty b 0 v) ∷ ‵ ((Array R n).own_val xs (v ∷ [])) ∷ []) ∵
      use1 𝓛 (‵ (cell_at full_share (array_ty ∷ []) (v ∷ []) b 0)) (𝓛.laws.at_raw full_share array_ty b 0 v) $ fjoin ! $
      fpack ! (List Val) (λ vs. fsep (cell_at full_share (array_ty ∷ []) vs b 0) ((Array R n).own_val xs vs)) (v ∷ []) $
      use1 𝓛 (‵ ((arr_parts (shares R) n).part full_share xs b 0)) (Array-apart 𝓛 R full_share one n xs b 0) $ fsplit ! $ feq_l ! (λ l.
      use1 𝓛 (‵ (cells (mem R) xs b 0)) (whole_in 𝓛 R xs b 0) $ check ! l $ done !)

  -- whatever they hold, elements side by side are room for the array
  freed : length xs ≡ n → ent 𝓤 (sem 𝓛 (cells (mem R) xs b 0)) (H.room array_ty b 0)
  unfolding part_of
  freed l =
      qed 𝓛 (‵ (cells (mem R) xs b 0) ∷ []) ∵ use1 𝓛 (‵ (row R full_share xs b 0)) (whole_out 𝓛 R xs b 0) $ feq_i ! ℕ (length xs) n l $ fjoin ! $
      use1 𝓛 (‵ (part_at (Array R n) full_share xs b 0)) (Array-whole 𝓛 R full_share n xs b 0) $
      fpick ! (λ vs. fsplit ! $ move ! (1 ∷ []) $ fpick ! (λ us. fsplit ! $ fsplit ! $ feq_l ! (λ e. drop ! $ drop ! $
      rewrite ! 0 (λ (ws : List Val). ‵ (cell_at full_share (array_ty ∷ []) ws b 0)) e refl $
      use1 𝓛 (‵ (fat full_share array_ty b 0 (array_val us))) (𝓛.laws.raw_at full_share array_ty b 0 (array_val us)) $ by ! (𝓛.laws.at_room array_ty b 0 (array_val us)))))

  module _ (k : ℕ) (κ : Lft) (l : length xs ≡ n) where
    -- the elements that are lent, and those after them
    abbrev pub Part : Fml
    Part = (arr_parts (shares R) (length (take k xs))).part full_share (take k xs) b 0

    abbrev pub Behind : Fml
    Behind = cells (mem R) (drop-list k xs) b (at 0 (mem R).size (length (take k xs)))

    -- what the slice owns
    abbrev pub Lent : Lifetime → Fml
    Lent ℓ = (ShrSlice ℓ κ R).own_val (record { ref_ptr = (b, 0); now = take k xs }) (slice_val (b, 0) (length (take k xs)) ∷ [])

    -- what is shared of an element lives as long as l, and so do the lifetimes whose tokens ts are at hand
    pub lends_part : (ℓ : Lifetime) (l' : Lft) → SharesAsFrom 𝓛 full_share R (shared_of R) l' → (ts : Toks) → Incl (span ts) l' → Incl (span ts) κ → Room R n →
        ent 𝓤 (sep 𝓤 (sem 𝓛 (cells (mem R) xs b 0)) (lfts 𝓛 ts))
        (H.⇛ (sep 𝓤 (sem 𝓛 (Lent ℓ)) (sep 𝓤 (A.lent κ Part) (sep 𝓤 (sem 𝓛 Behind) (lfts 𝓛 ts)))))
    lends_part ℓ l' shared ts within around room =
        qed 𝓛 (‵ (cells (mem R) xs b 0) ∷ raw (lfts 𝓛 ts) ∷ []) ∵ updating ! $ rewrite ! 0 (λ (ys : List R.Denot). ‵ (cells (mem R) ys b 0)) (sym (take-append-drop k xs)) refl $
        use1 𝓛 (‵ (cells (mem R) (take k xs) b 0) ⊛ ‵ Behind) (cut_app 𝓛 (mem R) (take k xs) (drop-list k xs) b 0) $ split ! $
        use1 𝓛 (‵ (row R full_share (take k xs) b 0)) (whole_out 𝓛 R (take k xs) b 0) $ feq_i ! ℕ (length (take k xs)) (length (take k xs)) refl $ fjoin ! $
        move ! (0 ∷ 2 ∷ []) $
        use2 𝓛 (later ((‵ (Lent ℓ) ⊛ ‵ (flent κ Part)) ⊛ raw (lfts 𝓛 ts))) (lends_shr_slice 𝓛 R ℓ κ full_share (take k xs) b 0 (Room-take R n k xs l room) l' shared ts within around) $ await ! tt $ split ! $ split ! $
        at_once ! $ keep ! (0 ∷ 1 ∷ 3 ∷ 2 ∷ []) $ done !

    pub part_back : ent 𝓤 (sep 𝓤 (A.dead κ) (sep 𝓤 (A.lent κ Part) (sem 𝓛 Behind))) (H.⇛ (H.room array_ty b 0))
    part_back =
        qed 𝓛 (‵ (fdead κ) ∷ ‵ (flent κ Part) ∷ ‵ Behind ∷ []) ∵ updating ! $ lent_back ! tt $ at_once ! $ fsplit ! $ drop ! $
        use1 𝓛 (‵ (cells (mem R) (take k xs) b 0)) (whole_in 𝓛 R (take k xs) b 0) $
        use2 𝓛 (‵ (cells (mem R) (take k xs ++ drop-list k xs) b 0)) (join_app 𝓛 (mem R) (take k xs) (drop-list k xs) b 0) $
        rewrite ! 0 (λ (ys : List R.Denot). ‵ (cells (mem R) ys b 0)) (take-append-drop k xs) refl $ by ! (freed l)

module _ (D : Declared) where
  -- what each element owns, at its tuple and by itself
  each_own : (xs : List D.D) (us : List Val)
      → each (Declared.field D).row.Denot (Declared.field D).row.own_val (map D.to xs) us ≡ each D.D (Declared.row D).own_val xs us
  each_own [] [] = refl
  each_own [] (u ∷ us) = refl
  each_own (x ∷ xs) [] = refl
  each_own (x ∷ xs) (u ∷ us) = ap (λ (F : Fml). fsep ((Declared.row D).own_val x (u ∷ [])) F) (each_own xs us)

  module _ {M : Type 1} {𝓤 : Ura M} (𝓛 : Logic 𝓤) where
    pub field_array : (n : ℕ) (xs : List D.D) (vs : List Val) → ent 𝓤 (sem 𝓛 ((Array (Declared.field D).row n).own_val (map D.to xs) vs)) (sem 𝓛 ((Array (Declared.row D) n).own_val xs vs))
    field_array n xs vs =
        qed 𝓛 (‵ ((Array (Declared.field D).row n).own_val (map D.to xs) vs) ∷ []) ∵ fpick ! (λ us. fsplit ! $ fsplit ! $ feq_l ! (λ e. feq_l ! (λ l.
        rewrite ! 0 (λ (F : Fml). ‵ F) (each_own xs us) refl $
        feq_i ! ℕ (length xs) n (sym (length-map xs D.to) ∙ l) $ feq_i ! (List Val) vs (array_val us ∷ []) e $ fjoin ! $ fjoin ! $
        fpack ! (List Val) (λ ws. fsep (shape n xs vs ws) (each D.D (Declared.row D).own_val xs ws)) us $ done !)))
