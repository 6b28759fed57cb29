mod FormLines
