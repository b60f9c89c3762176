use Rattle.pf_lex.proofs.lexer.token_in_front.Goals as goal

pub returns-then-begins_quantity : goal.returns-then-begins_quantity
returns-then-begins_quantity c = c.quantity_in_front.ensures c.args.inside

pub returns-then-begins_string : goal.returns-then-begins_string
returns-then-begins_string c = c.string_in_front.ensures c.args.inside
