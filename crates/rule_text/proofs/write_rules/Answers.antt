use Rattle.rule_text.proofs.Returning.{books_return}
use Rattle.rule_text.proofs.Spelling.{reads_back, are_files}
use Rattle.rule_text.proofs.write_rules.Goals as goal

pub returns-clause-back : goal.returns-clause-back
returns-clause-back c = reads_back

pub returns-clause-files : goal.returns-clause-files
returns-clause-files c = are_files

pub returns-clause-returned : goal.returns-clause-returned
returns-clause-returned c = books_return
