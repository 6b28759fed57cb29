mod SameEnds
