use Rattle.std.proofs.Common.{◌∙◌, refl, sym, ap, map, inl, inr, Err}
use Rattle.std.proofs.lemmas.Bool.{false≢true}
use Rattle.clap.specs.Words.{kind_of}
use Rattle.desk.specs.Words.{meaning}
use Rattle.desk.proofs.OrdersNamed.{matches_are_the_words, matches_name_an_order}
use Rattle.desk.proofs.WordsRefused.{refusal_means_no_none, refusal_told, refused_is_wrong, none_asked, taken_is_right, version_asked}
use Rattle.desk.proofs.words.order.Goals as goal

pub returns-in-Err-try_get_matches_from-clause-version : goal.returns-in-Err-try_get_matches_from-clause-version
returns-in-Err-try_get_matches_from-clause-version c = λ asked.
    let parse = c.in-Err-try_get_matches_from in
    version_asked (kind_of parse.error) c.kind.result _ c.denied.result c.kind.ensures asked
    (refused_is_wrong c.in-Ok.command (map (λ s. s.now) c.args.words.now) parse.error c.in-Ok.ensures.app parse.ensures.kinds)
    c.denied.ensures.memory c.denied.ensures.version

pub returns-in-Err-try_get_matches_from-clause-denies : goal.returns-in-Err-try_get_matches_from-clause-denies
returns-in-Err-try_get_matches_from-clause-denies c =
    let parse = c.in-Err-try_get_matches_from in
    refusal_told (kind_of parse.error) c.kind.result _ c.denied.result c.kind.ensures c.denied.ensures.told
    (refused_is_wrong c.in-Ok.command (map (λ s. s.now) c.args.words.now) parse.error c.in-Ok.ensures.app parse.ensures.kinds)

-- what `clap` rejects is reported by its own text
pub returns-in-Err-try_get_matches_from-clause-none : goal.returns-in-Err-try_get_matches_from-clause-none
returns-in-Err-try_get_matches_from-clause-none c = refusal_means_no_none c.kind.result _ c.denied.result c.denied.ensures.told

pub returns-in-Ok-order_in-clause-accepts : goal.returns-in-Ok-order_in-clause-accepts
returns-in-Ok-order_in-clause-accepts c = taken_is_right c.in-Ok.command (map (λ s. s.now) c.args.words.now) c.in-Ok.ensures.app c.in-Ok-try_get_matches_from.ensures.kinds

pub returns-in-Err-BadVerdict-clause-denies : goal.returns-in-Err-BadVerdict-clause-denies
returns-in-Err-BadVerdict-clause-denies c = taken_is_right c.in-Ok.command (map (λ s. s.now) c.args.words.now) c.in-Ok.ensures.app c.in-Ok-try_get_matches_from.ensures.kinds

pub returns-clause-denies : goal.returns-clause-denies
returns-clause-denies c =
    let parse = c.in-Ok-try_get_matches_from in
    let known = matches_name_an_order c.in-Ok.command parse.matches (map (λ s. s.now) c.args.words.now) c.in-Ok.ensures.app c.in-Ok.ensures.local
    parse.ensures.matches parse.ensures.parsed in
    absurd (false≢true (sym (c.in-Err-Unknown.ensures.unknown (ap Err c.in-Err-Unknown.field-0-is)) ∙ known))

pub returns-in-Ok-order_in-clause-ok : goal.returns-in-Ok-order_in-clause-ok
returns-in-Ok-order_in-clause-ok c =
    let parse = c.in-Ok-try_get_matches_from in
    let same = matches_are_the_words c.in-Ok.command parse.matches (map (λ s. s.now) c.args.words.now) c.in-Ok.ensures.app parse.ensures.matches in
    ap meaning (sym same) ∙ c.in-Ok-order_in.ensures.ok

pub returns-in-Err-BadVerdict-clause-err : goal.returns-in-Err-BadVerdict-clause-err
returns-in-Err-BadVerdict-clause-err c = λ taken.
    let parse = c.in-Ok-try_get_matches_from in
    let same = matches_are_the_words c.in-Ok.command parse.matches (map (λ s. s.now) c.args.words.now) c.in-Ok.ensures.app parse.ensures.matches in
    inr (inl (refl, ap meaning (sym same) ∙ c.in-Err-BadVerdict.ensures.bad (ap Err c.in-Err-BadVerdict.field-0-is)))

pub returns-in-Err-BadOrigin-clause-denies : goal.returns-in-Err-BadOrigin-clause-denies
returns-in-Err-BadOrigin-clause-denies c = taken_is_right c.in-Ok.command (map (λ s. s.now) c.args.words.now) c.in-Ok.ensures.app c.in-Ok-try_get_matches_from.ensures.kinds

pub returns-in-Err-BadOrigin-clause-err : goal.returns-in-Err-BadOrigin-clause-err
returns-in-Err-BadOrigin-clause-err c = λ taken.
    let parse = c.in-Ok-try_get_matches_from in
    let same = matches_are_the_words c.in-Ok.command parse.matches (map (λ s. s.now) c.args.words.now) c.in-Ok.ensures.app parse.ensures.matches in
    inr (inr (inl (refl, ap meaning (sym same) ∙ c.in-Err-BadOrigin.ensures.bad_origin (ap Err c.in-Err-BadOrigin.field-0-is))))

pub returns-in-Err-BadDigest-clause-denies : goal.returns-in-Err-BadDigest-clause-denies
returns-in-Err-BadDigest-clause-denies c = taken_is_right c.in-Ok.command (map (λ s. s.now) c.args.words.now) c.in-Ok.ensures.app c.in-Ok-try_get_matches_from.ensures.kinds

pub returns-in-Err-TitleAlone-clause-denies : goal.returns-in-Err-TitleAlone-clause-denies
returns-in-Err-TitleAlone-clause-denies c = taken_is_right c.in-Ok.command (map (λ s. s.now) c.args.words.now) c.in-Ok.ensures.app c.in-Ok-try_get_matches_from.ensures.kinds

pub returns-in-Err-BadForm-clause-denies : goal.returns-in-Err-BadForm-clause-denies
returns-in-Err-BadForm-clause-denies c = taken_is_right c.in-Ok.command (map (λ s. s.now) c.args.words.now) c.in-Ok.ensures.app c.in-Ok-try_get_matches_from.ensures.kinds

pub returns-in-Err-BadDigest-clause-err : goal.returns-in-Err-BadDigest-clause-err
returns-in-Err-BadDigest-clause-err c = λ taken.
    let parse = c.in-Ok-try_get_matches_from in
    let same = matches_are_the_words c.in-Ok.command parse.matches (map (λ s. s.now) c.args.words.now) c.in-Ok.ensures.app parse.ensures.matches in
    inr (inr (inr (inl (refl, ap meaning (sym same) ∙ c.in-Err-BadDigest.ensures.bad_digest (ap Err c.in-Err-BadDigest.field-0-is)))))

pub returns-in-Err-TitleAlone-clause-err : goal.returns-in-Err-TitleAlone-clause-err
returns-in-Err-TitleAlone-clause-err c = λ taken.
    let parse = c.in-Ok-try_get_matches_from in
    let same = matches_are_the_words c.in-Ok.command parse.matches (map (λ s. s.now) c.args.words.now) c.in-Ok.ensures.app parse.ensures.matches in
    inr (inr (inr (inr (inl (refl, ap meaning (sym same) ∙ c.in-Err-TitleAlone.ensures.title_alone (ap Err c.in-Err-TitleAlone.field-0-is))))))

pub returns-in-Err-BadForm-clause-err : goal.returns-in-Err-BadForm-clause-err
returns-in-Err-BadForm-clause-err c = λ taken.
    let parse = c.in-Ok-try_get_matches_from in
    let same = matches_are_the_words c.in-Ok.command parse.matches (map (λ s. s.now) c.args.words.now) c.in-Ok.ensures.app parse.ensures.matches in
    inr (inr (inr (inr (inr (refl, ap meaning (sym same) ∙ c.in-Err-BadForm.ensures.bad_form (ap Err c.in-Err-BadForm.field-0-is))))))

pub returns-clause-err : goal.returns-clause-err
returns-clause-err c = λ taken.
    let parse = c.in-Ok-try_get_matches_from in
    let known = matches_name_an_order c.in-Ok.command parse.matches (map (λ s. s.now) c.args.words.now) c.in-Ok.ensures.app c.in-Ok.ensures.local
    parse.ensures.matches parse.ensures.parsed in
    absurd (false≢true (sym (c.in-Err-Unknown.ensures.unknown (ap Err c.in-Err-Unknown.field-0-is)) ∙ known))

pub returns-in-Err-BadVerdict-clause-version : goal.returns-in-Err-BadVerdict-clause-version
returns-in-Err-BadVerdict-clause-version c =
    λ asked. absurd (none_asked _ (taken_is_right c.in-Ok.command (map (λ s. s.now) c.args.words.now) c.in-Ok.ensures.app c.in-Ok-try_get_matches_from.ensures.kinds) asked)

pub returns-in-Err-BadOrigin-clause-version : goal.returns-in-Err-BadOrigin-clause-version
returns-in-Err-BadOrigin-clause-version c =
    λ asked. absurd (none_asked _ (taken_is_right c.in-Ok.command (map (λ s. s.now) c.args.words.now) c.in-Ok.ensures.app c.in-Ok-try_get_matches_from.ensures.kinds) asked)

pub returns-in-Err-BadDigest-clause-version : goal.returns-in-Err-BadDigest-clause-version
returns-in-Err-BadDigest-clause-version c =
    λ asked. absurd (none_asked _ (taken_is_right c.in-Ok.command (map (λ s. s.now) c.args.words.now) c.in-Ok.ensures.app c.in-Ok-try_get_matches_from.ensures.kinds) asked)

pub returns-in-Err-TitleAlone-clause-version : goal.returns-in-Err-TitleAlone-clause-version
returns-in-Err-TitleAlone-clause-version c =
    λ asked. absurd (none_asked _ (taken_is_right c.in-Ok.command (map (λ s. s.now) c.args.words.now) c.in-Ok.ensures.app c.in-Ok-try_get_matches_from.ensures.kinds) asked)

pub returns-in-Err-BadForm-clause-version : goal.returns-in-Err-BadForm-clause-version
returns-in-Err-BadForm-clause-version c =
    λ asked. absurd (none_asked _ (taken_is_right c.in-Ok.command (map (λ s. s.now) c.args.words.now) c.in-Ok.ensures.app c.in-Ok-try_get_matches_from.ensures.kinds) asked)

pub returns-clause-version : goal.returns-clause-version
returns-clause-version c = λ asked. absurd (none_asked _ (taken_is_right c.in-Ok.command (map (λ s. s.now) c.args.words.now) c.in-Ok.ensures.app c.in-Ok-try_get_matches_from.ensures.kinds) asked)

pub returns-in-Err-BadVerdict-clause-none : goal.returns-in-Err-BadVerdict-clause-none
returns-in-Err-BadVerdict-clause-none c =
    let parse = c.in-Ok-try_get_matches_from in
    let same = matches_are_the_words c.in-Ok.command parse.matches (map (λ s. s.now) c.args.words.now) c.in-Ok.ensures.app parse.ensures.matches in
    ap meaning (sym same) ∙ c.in-Err-BadVerdict.ensures.bad (ap Err c.in-Err-BadVerdict.field-0-is)

pub returns-in-Err-BadOrigin-clause-none : goal.returns-in-Err-BadOrigin-clause-none
returns-in-Err-BadOrigin-clause-none c =
    let parse = c.in-Ok-try_get_matches_from in
    let same = matches_are_the_words c.in-Ok.command parse.matches (map (λ s. s.now) c.args.words.now) c.in-Ok.ensures.app parse.ensures.matches in
    ap meaning (sym same) ∙ c.in-Err-BadOrigin.ensures.bad_origin (ap Err c.in-Err-BadOrigin.field-0-is)

pub returns-in-Err-BadDigest-clause-none : goal.returns-in-Err-BadDigest-clause-none
returns-in-Err-BadDigest-clause-none c =
    let parse = c.in-Ok-try_get_matches_from in
    let same = matches_are_the_words c.in-Ok.command parse.matches (map (λ s. s.now) c.args.words.now) c.in-Ok.ensures.app parse.ensures.matches in
    ap meaning (sym same) ∙ c.in-Err-BadDigest.ensures.bad_digest (ap Err c.in-Err-BadDigest.field-0-is)

pub returns-in-Err-TitleAlone-clause-none : goal.returns-in-Err-TitleAlone-clause-none
returns-in-Err-TitleAlone-clause-none c =
    let parse = c.in-Ok-try_get_matches_from in
    let same = matches_are_the_words c.in-Ok.command parse.matches (map (λ s. s.now) c.args.words.now) c.in-Ok.ensures.app parse.ensures.matches in
    ap meaning (sym same) ∙ c.in-Err-TitleAlone.ensures.title_alone (ap Err c.in-Err-TitleAlone.field-0-is)

pub returns-in-Err-BadForm-clause-none : goal.returns-in-Err-BadForm-clause-none
returns-in-Err-BadForm-clause-none c =
    let parse = c.in-Ok-try_get_matches_from in
    let same = matches_are_the_words c.in-Ok.command parse.matches (map (λ s. s.now) c.args.words.now) c.in-Ok.ensures.app parse.ensures.matches in
    ap meaning (sym same) ∙ c.in-Err-BadForm.ensures.bad_form (ap Err c.in-Err-BadForm.field-0-is)
