-- Proof that `order_named` returns `Unknown` only for a name that is no order's.
use Rattle.std.proofs.Common.{◌≡◌, false, refl, rules}
use Rattle.desk.specs.Words.{is_command_name, is_question_name}
use Rattle.desk.proofs.OrderNames.{no_order}
use Rattle.desk.proofs.order_meanings.order_named.Goals as goal

pub returns-in_err-command_named-in-None-clause-unknown : goal.returns-in_err-command_named-in-None-clause-unknown
returns-in_err-command_named-in-None-clause-unknown c = λ unknown.
    let d = c.in_default in
    let none : is_question_name c.args.name.now ≡ false = c.in-None.ensures.none refl in
    let no_command : is_command_name c.args.name.now ≡ false = search rules in
    no_order c.args.name.now (
      d.not-init,
      (
        d.not-migrate,
        (
          d.not-text,
          (
            d.not-text-2,
            (
              d.not-text-3,
              (
                d.not-key,
                (
                  d.not-seal,
                  (
                    d.not-count,
                    (
                      d.not-next,
                      (
                        d.not-status,
                        (
                          d.not-sheet,
                          (
                            d.not-result,
                            (
                              d.not-ballots,
                              (
                                d.not-page,
                                (
                                  d.not-table,
                                  (
                                    d.not-index,
                                    (
                                      d.not-serve,
                                      (
                                        d.not-forms,
                                        (
                                          d.not-journal,
                                          (d.not-replay, (d.not-second, (d.not-copy, (d.not-mend, (d.not-switch, (d.not-codes, (d.not-publish, tt))))))),
                                        ),
                                      ),
                                    ),
                                  ),
                                ),
                              ),
                            ),
                          ),
                        ),
                      ),
                    ),
                  ),
                ),
              ),
            ),
          ),
        ),
      ),
    )
    none no_command
