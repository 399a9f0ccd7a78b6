-- Proof that `summed_files` meets its contract.
use Rattle.std.proofs.Common.{◌≡◌, List, [], ◌∷◌, ◌++◌, map, ◌∙◌, ap, append_assoc}
use Rattle.publication.specs.Files.{file_entry}
use Rattle.publication.proofs.folder.summed_files.Goals as goal

-- the files in the order in which they are appended
in_order : {X : Type 0} (none one two three four wards : List X) (i r k : X) → none ≡ [] → one ≡ none ++ i ∷ [] → two ≡ one ++ wards →
    three ≡ two ++ r ∷ [] → four ≡ three ++ k ∷ [] → four ≡ i ∷ (wards ++ r ∷ k ∷ [])
in_order none one two three four wards i r k is_none is_one is_two is_three is_four =
    is_four
    ∙ ap (λ l. l ++ k ∷ []) (is_three ∙ ap (λ l. l ++ r ∷ []) (is_two ∙ ap (λ l. l ++ wards) (is_one ∙ ap (λ l. l ++ i ∷ []) is_none)))
    ∙ ap (λ l. i ∷ l) (append_assoc wards (r ∷ []) (k ∷ []))

pub returns : goal.returns
returns c =
    in_order _ _ _ _ _ _ _ _ _ (ap (map file_entry) c.new-files.ensures.items) c.in_ok-push_index.ensures c.in_ok-push_wards.ensures
    (rw c.in_ok-all_results.ensures at c.in_ok-push_named.ensures) (rw c.in_ok-check_page.ensures at c.in_ok-push_named-2.ensures)
