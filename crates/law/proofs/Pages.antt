-- Records of pages that hold what the memory holds: they change no byte of it, and each is one that stands alone.
use Rattle.std.proofs.Common.{◌≡◌, ℕ, ◌+◌, ◌-◌, ◌*◌, ◌<◌, ◌≤◌, List, [], ◌∷◌, ◌++◌, map, length, get_or, take, drop, refl, ap, ◌∙◌, inl, inr, ⊎_elim, arith}
use Rattle.std.proofs.lemmas.Bool.{cases_lt}
use Rattle.std.proofs.lemmas.List.{length-take, length-drop, get_or-take, get_or-drop}
use Rattle.device.specs.Disk.{Among}
use Rattle.record.specs.Good.{Fits}
use Rattle.journal.specs.Memory.{overlaid}
use Rattle.journal.proofs.Overlay.{overlaid_below, overlaid_within, overlaid_above}
use Rattle.durability.specs.Items.{Item, put_in, ordinal_after, kind_after, Appendable}
use Rattle.transactions.specs.Truncation.{page_item}

-- Each of these is a page.
abbrev pub Inside : List ℕ → Type 0
Inside [] = Unit {0}
Inside (p ∷ ps) = (p < 64) × Inside ps

pub inside_all : (ps : List ℕ) → ((p : ℕ) → Among p ps → p < 64) → Inside ps
inside_all [] h = tt
inside_all (p ∷ ps) h = (h p (inl refl), inside_all ps (λ q k. h q (inr k)))

module _ (o : ℕ) (m : List ℕ) (whole : length m ≡ 6144) where
  pub long_page : (p : ℕ) → p < 64 → length (take 96 (drop (p * 96) m)) ≡ 96
  long_page p h = simp (length-take, length-drop) (omega (arith, whole))

  fits_page : (p : ℕ) → p < 64 → Fits 3 p 0 (length (take 96 (drop (p * 96) m)))
  fits_page p h =
      let long = long_page p h in
      record {
        known = (omega arith, omega arith);
        piece = λ k. (h, omega (arith, long), omega (arith, long));
        whole = λ k. long;
        mark = λ k. absurd (omega arith);
      }

  pub appendable_pages : (last : ℕ) (ps : List ℕ) → o ≤ last → Inside ps → Appendable last (map (page_item o m) ps)
  appendable_pages last [] h inside = tt
  appendable_pages last (p ∷ ps) h (small, inside) =
      (omega arith, fits_page p small, h, appendable_pages (last + 1) ps (omega arith) inside)

  pub kind_pages : (k : ℕ) (ps : List ℕ) → 2 ≤ k → 2 ≤ kind_after k (map (page_item o m) ps)
  kind_pages k [] h = h
  kind_pages k (p ∷ ps) h = kind_pages 3 ps (omega arith)

  pub ordinal_pages : (ps : List ℕ) → ordinal_after o (map (page_item o m) ps) ≡ o
  ordinal_pages [] = refl
  ordinal_pages (p ∷ ps) = ordinal_pages ps

  -- a byte of the page is what the record has there
  page_byte : (p i : ℕ) → p * 96 ≤ i → i < p * 96 + 96 → get_or (take 96 (drop (p * 96) m)) (i - p * 96) 0 ≡ get_or m i 0
  page_byte p i a b =
      let at : p * 96 + (i - p * 96) ≡ i = omega arith in
      get_or-take 96 (drop (p * 96) m) (i - p * 96) 0 (omega arith)
      ∙ get_or-drop (p * 96) m (i - p * 96) 0
      ∙ ap (λ (j : ℕ). get_or m j 0) at

  put_page : (p i : ℕ) → p < 64 → overlaid (p * 96 + 0) (take 96 (drop (p * 96) m)) i (get_or m i 0) ≡ get_or m i 0
  put_page p i h =
      let bytes = take 96 (drop (p * 96) m) in
      let long = long_page p h in
      let at : p * 96 + 0 ≡ p * 96 = omega arith in
      let v = get_or m i 0 in
      ap (λ (s : ℕ). overlaid s bytes i v) at
      ∙ ⊎_elim
      (λ (a : i < p * 96). overlaid_below (p * 96) bytes i v a)
      (λ (a : p * 96 ≤ i).
      ⊎_elim
      (λ (b : i < p * 96 + 96). overlaid_within (p * 96) bytes i v a (omega (arith, long)) ∙ page_byte p i a b)
      (λ (b : p * 96 + 96 ≤ i). overlaid_above (p * 96) bytes i v a (omega (arith, long)))
      (cases_lt i (p * 96 + 96)))
      (cases_lt i (p * 96))

  pub put_pages : (ps : List ℕ) (i : ℕ) → Inside ps → put_in (map (page_item o m) ps) i (get_or m i 0) ≡ get_or m i 0
  put_pages [] i inside = refl
  put_pages (p ∷ ps) i (small, inside) =
      ap (λ (v : ℕ). put_in (map (page_item o m) ps) i v) (put_page p i small) ∙ put_pages ps i inside

  -- the first of them are records of pages too
  pub first_pages : (ps : List ℕ) (first rest : List Item) → Inside ps → first ++ rest ≡ map (page_item o m) ps → (qs : List ℕ) × Inside qs × (first ≡ map (page_item o m) qs)
  first_pages ps [] rest inside e = ([], tt, refl)
  first_pages [] (x ∷ first) rest inside e = absurd (omega (arith, ap length e))
  first_pages (p ∷ ps) (x ∷ first) rest (small, inside) e =
      let r = first_pages ps first rest inside cc in
      let is : x ≡ page_item o m p = cc in
      let more = r.2 in
      (p ∷ r.0, (small, r.1), cc)
