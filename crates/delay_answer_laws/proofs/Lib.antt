mod SaidSpreads
