mod TraceLaws
